-- What taking, performing and handing back a turn answer and leave.
use Rattle.std.specs.Prelude.{◌≡◌, ℕ, ◌<◌, true, false, List, [], length, is_ok, IfOk, Some, None, Ok, Err, Option, Result}
use Rattle.kinds.specs.Kinds.{Kind}
use Rattle.working.specs.declared.fault.Fault.{Fault}
use Rattle.runs.specs.declared.refusal.Refusal.{Refusal}
use Rattle.runs.specs.Lines.{out, Member, find, any_out}
use Rattle.runs.specs.Ready.{ready}
use Rattle.runs.specs.Benches.{offer, settled}
use Rattle.runs.specs.Steps.{put}
use Rattle.runs.specs.Events.{can_take}
use Rattle.runs.specs.Choices.{chosen}
use Rattle.runs.specs.Calls.{take, perform, hand_back, Answer}
use Rattle.runs.specs.Tests.{fits_going, fits_turn}
use Rattle.runs.specs.Answers.{answer}
use Rattle.bench.specs.declared.bench.Bench.{Bench}
use Rattle.bench.specs.declared.tokens.Going.{Going}
use Rattle.bench.specs.declared.tokens.Turn.{Turn}
use Rattle.bench.specs.declared.answers.Refused.{Refused}
use Rattle.bench.specs.Views.{bench_of, going_of, turn_of, answer_of, taken, performed}
use Rattle.bench.specs.Histories.{LeadsOn}

-- what was given up is handed back with a refusal
abbrev pub HandedBack : {A T : Type 0} → T → Result A (Refused T) → Type 0
HandedBack t (Ok x) = Unit {0}
HandedBack t (Err e) = e.given ≡ t

-- a turn is taken under a scheduler that chooses f and goes from s to s', or there is nothing to offer
pub record GivenTurn {K S : Type 0} (f : List ℕ → ℕ) (next : S → List ℕ → S → Type 0) (s : S) (b : Bench K) (n : ℕ) (s' : S) (b' : Bench K) : Type 0 where
  pub number : n ≡ chosen f (offer (bench_of b))
  pub some_offered : 0 < length (offer (bench_of b))
  pub allowed : can_take n (bench_of b).line ≡ true
  pub bench : bench_of b' ≡ put n out (bench_of b)
  pub scheduler : next s (offer (bench_of b)) s'
  pub kind : b'.kind ≡ b.kind

abbrev pub Gives : {K S : Type 0} → (List ℕ → ℕ) → (S → List ℕ → S → Type 0) → S → Bench K → Option ℕ → S → Bench K → Type 0
Gives f next s b None s' b' = (offer (bench_of b) ≡ []) × (s' ≡ s) × (b' ≡ b)
Gives f next s b (Some n) s' b' = GivenTurn f next s b n s' b'

-- the scheduler, from s to s': picked once from the offer, or on a refusal not at all
abbrev pub Picked : {S : Type 0} → (S → List ℕ → S → Type 0) → List ℕ → S → Result Turn Refusal → S → Type 0
Picked next ns s (Ok t) s' = next s ns s'
Picked next ns s (Err r) s' = s' ≡ s

-- a take under the scheduler's choice
pub record Takes {K S : Type 0} (k : Kind) (choice : S → List ℕ → ℕ) (next : S → List ℕ → S → Type 0) (g : Going) (s : S) (b : Bench K) (r : Result Turn Refusal) (s' : S) (b' : Bench K) : Type 0 where
  pub answers : answer k (take (going_of g) (choice s)) (bench_of b) ≡ (taken r, bench_of b')
  pub scheduler : Picked next (offer (bench_of b)) s r s'
  -- the turn that it gives is out
  pub fits : IfOk r (λ t. fits_turn (turn_of t) (bench_of b') ≡ true)
  -- unless the run is settled or a turn is out, it is granted
  pub goes_on : fits_going (going_of g) (bench_of b) ≡ true → settled (bench_of b) ≡ false → any_out (bench_of b).line ≡ false → is_ok r ≡ true
  pub leads_on : LeadsOn k (bench_of b) (bench_of b')
  pub kind : b'.kind ≡ b.kind

-- task n stands in the line, and is ready
abbrev pub Ready : ℕ → List Member → Type 0
Ready n line = (s : Member) × (find n line ≡ Some s) × (ready line s ≡ true)

pub record Performs {K : Type 0} (k : Kind) (t : Turn) (b : Bench K) (r : Result (Result (Unit {0}) Fault) (Refused Turn)) (b' : Bench K) : Type 0 where
  pub answers : answer k (perform (turn_of t)) (bench_of b) ≡ (answer_of performed r, bench_of b')
  pub back : HandedBack t r
  -- a turn that is performed is of a ready task
  pub was_ready : IfOk r (λ _. Ready t.task (bench_of b).line)
  pub leads_on : LeadsOn k (bench_of b) (bench_of b')
  pub kind : b'.kind ≡ b.kind

pub record HandsBack {K : Type 0} (k : Kind) (t : Turn) (b : Bench K) (r : Result (Unit {0}) (Refused Turn)) (b' : Bench K) : Type 0 where
  pub answers : answer k (hand_back (turn_of t)) (bench_of b) ≡ (answer_of (λ u. Answer.returned) r, bench_of b')
  pub back : HandedBack t r
  pub leads_on : LeadsOn k (bench_of b) (bench_of b')
  pub kind : b'.kind ≡ b.kind
