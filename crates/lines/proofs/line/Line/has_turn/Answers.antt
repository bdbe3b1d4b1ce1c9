use Rattle.std.proofs.Common.{◌≡◌, true, false, vec_items, sym, ap, ◌∙◌}
use Rattle.lines.specs.declared.state.State.{State}
use Rattle.lines.specs.declared.state.Event.TheVariants.{Perform}
use Rattle.lines.specs.States.{deed, is_out}
use Rattle.lines.specs.Stored.{queues_of}
use Rattle.lines.specs.Lines.{state_of}
use Rattle.lines.proofs.Standing.{step_out, no_step, out_live, turn_is, found_out}
use Rattle.lines.proofs.Readies.{out_ready}
use Rattle.lines.proofs.Holds.{holds, told}
use Rattle.lines.proofs.line.Line.has_turn.Goals as goal

pub returns-in-Step : goal.returns-in-Step
returns-in-Step c =
    let s = c.args.self.now in
    let out : is_out (state_of s c.args.n) ≡ true = step_out (state_of s c.args.n) (c.in-Step.ensures ∙ ap (λ (x : State). deed x Perform) c.state.ensures) in
    record {
      turn = λ t. sym out ∙ turn_is s.states (vec_items s.order) t s.unfinished c.args.n;
      ready = λ t tells _. out_ready (queues_of (vec_items s.queues)) s.states (vec_items s.order) t (holds s).queued s.once (told (holds s) t tells) s.unfinished s.turns c.args.n out;
      found = λ t _. found_out s.states (vec_items s.order) t s.unfinished c.args.n out;
      live = λ _. out_live (state_of s c.args.n) out;
    }

pub returns-in_default-clause-turn : goal.returns-in_default-clause-turn
returns-in_default-clause-turn c =
    let s = c.args.self.now in
    let out : is_out (state_of s c.args.n) ≡ false = no_step (state_of s c.args.n) (λ e. c.in_default.not-Step (c.decide.ensures ∙ ap (λ (x : State). deed x Perform) c.state.ensures ∙ e)) in
    λ t. sym out ∙ turn_is s.states (vec_items s.order) t s.unfinished c.args.n
