-- The states of the tasks, in the model's terms.
use Rattle.std.proofs.Common.{◌≡◌, ℕ, Bool, true, false, ◌||◌, List, [], ◌∷◌, map, Some, Option, MatchOption, sym, refl, ap, ◌∙◌, ⊎_elim}
use Rattle.std.specs.Option.{option_map_or}
use Rattle.std.specs.List.{slice_get, list_any}
use Rattle.std.proofs.lemmas.Bool.{cases_Bool, both_ways}
use Rattle.working.specs.Tasks.{Task}
use Rattle.runs.specs.Lines as Model
use Rattle.runs.specs.Lines.{Member, member, any_out, find}
use Rattle.runs.specs.Benches.{settled_line}
use Rattle.runs.specs.Events.{has_turn}
use Rattle.lines.specs.declared.state.State.{State}
use Rattle.lines.specs.declared.state.State.TheVariants.{Finished, Waiting, Out, Stuck}
use Rattle.lines.specs.declared.state.Event.TheVariants.{Take, Perform, HandBack}
use Rattle.lines.specs.declared.state.Deed.TheVariants.{Give, Step, Return}
use Rattle.lines.specs.States.{deed, is_finished, is_waiting, is_out, is_stuck, status_of}
use Rattle.lines.specs.Rows.{itself, absent}
use Rattle.lines.specs.Stored.{state_at, member_at, members_at}
use Rattle.lines.proofs.Members.{number_at, find_there, find_none}
use Rattle.lines.proofs.Unfinished.{Unfinished, finished_in}

-- What a deed tells of the state.

pub step_out : (s : State) → Step ≡ deed s Perform → is_out s ≡ true
step_out Finished e = cc
step_out Waiting e = cc
step_out Out e = refl
step_out (Stuck f) e = cc

pub return_out : (s : State) → Return ≡ deed s HandBack → is_out s ≡ true
return_out Finished e = cc
return_out Waiting e = cc
return_out Out e = refl
return_out (Stuck f) e = cc

pub give_waits : (s : State) → Give ≡ deed s Take → is_waiting s ≡ true
give_waits Finished e = cc
give_waits Waiting e = refl
give_waits Out e = cc
give_waits (Stuck f) e = cc

pub no_step : (s : State) → (deed s Perform ≡ Step → ⊥) → is_out s ≡ false
no_step Finished h = refl
no_step Waiting h = refl
no_step Out h = absurd (h refl)
no_step (Stuck f) h = refl

pub no_return : (s : State) → (deed s HandBack ≡ Return → ⊥) → is_out s ≡ false
no_return Finished h = refl
no_return Waiting h = refl
no_return Out h = absurd (h refl)
no_return (Stuck f) h = refl

pub no_give : (s : State) → (deed s Take ≡ Give → ⊥) → is_waiting s ≡ false
no_give Finished h = refl
no_give Waiting h = absurd (h refl)
no_give Out h = refl
no_give (Stuck f) h = refl

pub out_live : (s : State) → is_out s ≡ true → is_finished s ≡ false
out_live Finished e = absurd (both_ways false refl e)
out_live Waiting e = refl
out_live Out e = refl
out_live (Stuck f) e = refl

-- The status of a state.

status_out : (s : State) → Model.is_out (status_of s) ≡ is_out s
unfolding Model.is_out
status_out Finished = refl
status_out Waiting = refl
status_out Out = refl
status_out (Stuck f) = refl

status_stuck : (s : State) → Model.is_stuck (status_of s) ≡ is_stuck s
unfolding Model.is_stuck
status_stuck Finished = refl
status_stuck Waiting = refl
status_stuck Out = refl
status_stuck (Stuck f) = refl

-- A task that is there is found.

found_at : (ss : List State) (ns : List ℕ) (t : ℕ → Task) → Unfinished ss ns → (n : ℕ) (s : State) → state_at ss n ≡ s → is_finished s ≡ false → find n (members_at ss t ns) ≡ Some (member n (status_of s) (t n))
unfolding members_at member_at
found_at ss ns t left n s e live =
    find_there (member_at ss t) (number_at ss t) n ns (left n ∙ ap is_finished e ∙ live) ∙ ap (λ (x : State). Some (member n (status_of x) (t n))) e

pub found_out : (ss : List State) (ns : List ℕ) (t : ℕ → Task) → Unfinished ss ns → (n : ℕ) → is_out (state_at ss n) ≡ true → find n (members_at ss t ns) ≡ Some (member n Model.out (t n))
found_out ss ns t left n e = go (state_at ss n) refl e
  where
    go : (s : State) → state_at ss n ≡ s → is_out s ≡ true → find n (members_at ss t ns) ≡ Some (member n Model.out (t n))
    go Finished q e = absurd (both_ways false refl e)
    go Waiting q e = absurd (both_ways false refl e)
    go Out q e = found_at ss ns t left n Out q refl
    go (Stuck f) q e = absurd (both_ways false refl e)

pub found_waiting : (ss : List State) (ns : List ℕ) (t : ℕ → Task) → Unfinished ss ns → (n : ℕ) → is_waiting (state_at ss n) ≡ true → find n (members_at ss t ns) ≡ Some (member n Model.waiting (t n))
found_waiting ss ns t left n e = go (state_at ss n) refl e
  where
    go : (s : State) → state_at ss n ≡ s → is_waiting s ≡ true → find n (members_at ss t ns) ≡ Some (member n Model.waiting (t n))
    go Finished q e = absurd (both_ways false refl e)
    go Waiting q e = found_at ss ns t left n Waiting q refl
    go Out q e = absurd (both_ways false refl e)
    go (Stuck f) q e = absurd (both_ways false refl e)

-- Who has a turn out.

pub turn_is : (ss : List State) (ns : List ℕ) (t : ℕ → Task) → Unfinished ss ns → (n : ℕ) → is_out (state_at ss n) ≡ has_turn n (members_at ss t ns)
unfolding has_turn members_at member_at member
turn_is ss ns t left n =
    ⊎_elim
    (λ gone. finished_in (state_at ss n) (sym (left n) ∙ gone) ∙ sym (ap (λ (o : Option Member). option_map_or (λ (s : Member). Model.is_out s.status) o false) (find_none (member_at ss t) (number_at ss t) n ns gone)))
    (λ here. sym (status_out (state_at ss n)) ∙ sym (ap (λ (o : Option Member). option_map_or (λ (s : Member). Model.is_out s.status) o false) (find_there (member_at ss t) (number_at ss t) n ns here)))
    (cases_Bool (absent itself n ns))

any_front : (ss : List State) (t : ℕ → Task) (n : ℕ) (ns : List ℕ) → any_out (members_at ss t (n ∷ ns)) ≡ (is_out (state_at ss n) || any_out (members_at ss t ns))
unfolding any_out members_at member_at member
any_front ss t n ns = ap (λ (b : Bool). b || any_out (map (member_at ss t) ns)) (status_out (state_at ss n))

any_none : (ss : List State) (t : ℕ → Task) → any_out (members_at ss t []) ≡ false
unfolding any_out members_at
any_none ss t = refl

pub any_is : (ss : List State) (t : ℕ → Task) (ns : List ℕ) → list_any (λ n. is_out (state_at ss n)) ns ≡ any_out (members_at ss t ns)
any_is ss t [] = sym (any_none ss t)
any_is ss t (n ∷ ns) = ap (λ (b : Bool). is_out (state_at ss n) || b) (any_is ss t ns) ∙ sym (any_front ss t n ns)

-- The first in line.

pub first_is : (ss : List State) (t : ℕ → Task) (ns : List ℕ) → MatchOption (slice_get ns 0) (members_at ss t ns ≡ []) (λ n. (rest : List Member) × (members_at ss t ns ≡ member n (status_of (state_at ss n)) (t n) ∷ rest))
unfolding members_at member_at
first_is ss t [] = refl
first_is ss t (n ∷ ns) = (map (member_at ss t) ns, refl)

pub settled_none : (line : List Member) → line ≡ [] → true ≡ settled_line line
unfolding settled_line
settled_none line e = ap settled_line (sym e)

pub settled_some : (line rest : List Member) (n : ℕ) (s : State) (t : Task) (b : Bool) → b ≡ is_stuck s → line ≡ member n (status_of s) t ∷ rest → b ≡ settled_line line
unfolding settled_line member
settled_some line rest n s t b is e = is ∙ sym (status_stuck s) ∙ ap settled_line (sym e)
