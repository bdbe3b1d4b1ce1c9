-- A loop that appends a text part by part.
use Rattle.std.proofs.Common.{◌≡◌, ℕ, List, [], ◌++◌, Ok, Result, Vec, sym, refl, ap, ◌∙◌, append_assoc}
use Rattle.std.specs.declared.alloc.AllocError.{AllocError}
use Rattle.std.specs.declared.alloc.Global.{Global}
use Rattle.sheets.specs.Appends.{Appends}
use Rattle.sheets.proofs.Lines.{line_then}
use Rattle.sheets.proofs.Steps.{nothing, then, stopped}

-- all of the whole text but the rest was appended
pub record Left (u v : Vec ℕ Global) (whole rest : List ℕ) : Type 0 where
  pub done : List ℕ
  pub parts : whole ≡ done ++ rest
  pub appends : Appends u v done (Ok tt)

pub begin : (v : Vec ℕ Global) (whole : List ℕ) → Left v v whole whole
begin v whole = record { done = []; parts = refl; appends = nothing v }

pub onward : {u v w : Vec ℕ Global} {whole rest t : List ℕ} (rest' : List ℕ) → rest ≡ t ++ rest' → Left u v whole rest → Appends v w t (Ok tt) → Left u w whole rest'
onward {t = t} rest' e l a =
    record {
      done = l.done ++ t;
      parts = l.parts ∙ ap (λ x. l.done ++ x) e ∙ sym (append_assoc l.done t rest');
      appends = then refl l.appends a;
    }

pub finish : {u v w : Vec ℕ Global} {whole t : List ℕ} {r : Result (Unit {0}) AllocError} → Left u v whole t → Appends v w t r → Appends u w whole r
finish l a = then l.parts l.appends a

-- what the check tries where a text is appended part by part
pub ruleset appends = (then, stopped, line_then, begin, onward, finish)
