use Rattle.std.proofs.Common.{◌≡◌, ℕ, ◌<◌, Bool, true, false, ◌&&◌, get_or, vec_items, sym, ap, ◌∙◌, arith}
use Rattle.working.specs.Tasks.{Task}
use Rattle.runs.specs.Events.{can_take}
use Rattle.lines.specs.declared.line.Line.{Line}
use Rattle.lines.specs.declared.state.State.{State}
use Rattle.lines.specs.declared.state.Event.TheVariants.{Take}
use Rattle.lines.specs.States.{deed, is_waiting}
use Rattle.lines.specs.Stored.{queues_of}
use Rattle.lines.specs.Clears.{clear_in}
use Rattle.lines.specs.Lines.{state_of, line_of, Tells}
use Rattle.lines.proofs.Standing.{give_waits, no_give, found_waiting}
use Rattle.lines.proofs.Readies.{can_take_is}
use Rattle.lines.proofs.Holds.{holds, told}
use Rattle.lines.proofs.line.Line.take.Goals.{In-Give}
use Rattle.lines.proofs.line.Line.take.Goals as goal

takes : (s : Line) (n : ℕ) (t : ℕ → Task) → Tells s t → (is_waiting (state_of s n) && clear_in (queues_of (vec_items s.queues)) n) ≡ can_take n (line_of s t)
takes s n t tells = sym (can_take_is (queues_of (vec_items s.queues)) s.states (vec_items s.order) t (holds s).queued s.once (told (holds s) t tells) s.unfinished n)

given : (c : In-Give) → is_waiting (state_of c.args.self.now c.args.n) ≡ true
given c = give_waits (state_of c.args.self.now c.args.n) (c.in-Give.ensures ∙ ap (λ (x : State). deed x Take) c.state.ensures)

-- of a task that waits the flag decides
waits : (c : In-Give) (t : ℕ → Task) → Tells c.args.self.now t → get_or c.args.self.now.clear c.args.n false ≡ can_take c.args.n (line_of c.args.self.now t)
waits c t tells =
    let s = c.args.self.now in
    let lt : c.args.n < 256 = omega arith in
    s.flags c.args.n lt
    ∙ ap (λ (a : Bool). a && clear_in (queues_of (vec_items s.queues)) c.args.n) (sym (given c))
    ∙ takes s c.args.n t tells

pub returns-then-clear-clause-granted : goal.returns-then-clear-clause-granted
returns-then-clear-clause-granted c =
    waits (goal.at.returns-then-clear-clause-granted c).In-Give

pub returns-then-clear-clause-found : goal.returns-then-clear-clause-found
returns-then-clear-clause-found c =
    λ t _. found_waiting c.args.self.now.states (vec_items c.args.self.now.order) t c.args.self.now.unfinished c.args.n (given (goal.at.returns-then-clear-clause-found c).In-Give)

pub returns-else-clear-clause-granted : goal.returns-else-clear-clause-granted
returns-else-clear-clause-granted c =
    waits (goal.at.returns-else-clear-clause-granted c).In-Give

pub returns-in_default-clause-granted : goal.returns-in_default-clause-granted
returns-in_default-clause-granted c =
    let s = c.args.self.now in
    λ t tells.
    ap (λ (a : Bool). a && clear_in (queues_of (vec_items s.queues)) c.args.n) (sym (no_give (state_of s c.args.n) (λ e. c.in_default.not-Give (c.decide.ensures ∙ ap (λ (x : State). deed x Take) c.state.ensures ∙ e))))
    ∙ takes s c.args.n t tells
