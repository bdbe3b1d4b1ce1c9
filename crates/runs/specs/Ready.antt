-- When an immediate declaration is clear, when a task is ready, and which tasks are offered.
use Rattle.std.specs.Prelude.{ℕ, zero, suc, Bool, true, false, cond, not, ◌&&◌, ◌||◌, List, [], ◌∷◌, length}
use Rattle.cards.specs.declared.lines.Access.{Access}
use Rattle.cards.specs.declared.lines.Access.TheVariants.{Rd, Wr, Cm}
use Rattle.working.specs.declared.declared.Declared.{Declared}
use Rattle.working.specs.Tasks.{state, held, is_immediate}
use Rattle.runs.specs.Lines.{is_out, is_stuck, Member}
use Rattle.runs.specs.Queues.{Entry, on, queue, earlier}

-- whether an earlier entry leaves an immediate declaration clear:
-- for rd it holds no wr and no cm, for wr there is none, for cm it holds no rd and no wr
unfoldable pub passes : Access → Declared → Bool
passes Rd d = not (held d.writes || held d.commutes)
passes Wr d = false
passes Cm d = not (held d.reads || held d.writes)

unfoldable pub clear : Access → List Entry → Bool
clear a [] = true
clear a (e ∷ es) = passes a e.declared && clear a es

-- the declaration of s for access a on object o is clear if it is immediate
unfoldable pub clear_for : List Member → Member → ℕ → Access → Bool
clear_for line s o a = not (is_immediate (state (on s o) a)) || clear a (earlier s.number (queue o line))

-- f holds of each number below n
unfoldable pub each : ℕ → (ℕ → Bool) → Bool
each zero f = true
each (suc n) f = f n && each n f

unfoldable pub ready : List Member → Member → Bool
ready line s =
    not (is_stuck s.status)
    && each (length s.task.declared) (λ o. clear_for line s o Rd && (clear_for line s o Wr && clear_for line s o Cm))

-- ready, with no turn out
unfoldable pub on_offer : List Member → Member → Bool
on_offer line s = ready line s && not (is_out s.status)

-- the numbers of those of ss that are on offer
unfoldable pub offered : List Member → List Member → List ℕ
offered line [] = []
offered line (s ∷ ss) = cond (on_offer line s) (s.number ∷ offered line ss) (offered line ss)
