use Rattle.std.proofs.Common.{◌≡◌, true, vec_items, sym, refl, ap, ◌∙◌}
use Rattle.lines.specs.declared.state.State.{State}
use Rattle.lines.specs.declared.state.Event.TheVariants.{HandBack}
use Rattle.lines.specs.States.{deed, is_out}
use Rattle.lines.specs.Lines.{state_of}
use Rattle.lines.proofs.Standing.{return_out, no_return, turn_is, found_out}
use Rattle.lines.proofs.line.Line.hand_back.Goals as goal

pub returns-in-Return : goal.returns-in-Return
returns-in-Return c =
    let s = c.args.self.now in
    let out : is_out (state_of s c.args.n) ≡ true = return_out (state_of s c.args.n) (c.in-Return.ensures ∙ ap (λ (x : State). deed x HandBack) c.state.ensures) in
    record {
      granted = λ t. sym out ∙ turn_is s.states (vec_items s.order) t s.unfinished c.args.n;
      found = λ t _. found_out s.states (vec_items s.order) t s.unfinished c.args.n out;
      line = λ t. c.wait.ensures.line t t (λ k f. refl);
      tells = λ t. c.wait.ensures.tells t t (λ k f. refl) refl;
      sized = c.wait.ensures.sized;
    }

pub returns-in_default-clause-granted : goal.returns-in_default-clause-granted
returns-in_default-clause-granted c =
    let s = c.args.self.now in
    λ t. sym (no_return (state_of s c.args.n) (λ e. c.in_default.not-Return (c.decide.ensures ∙ ap (λ (x : State). deed x HandBack) c.state.ensures ∙ e))) ∙ turn_is s.states (vec_items s.order) t s.unfinished c.args.n
