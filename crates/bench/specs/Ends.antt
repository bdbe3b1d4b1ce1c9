-- What working off and closing answer and leave.
use Rattle.std.specs.Prelude.{◌≡◌, ℕ, ◌<◌, true, false, List, IfOk, Result}
use Rattle.kinds.specs.Kinds.{Kind}
use Rattle.cards.specs.Code.{Card}
use Rattle.runs.specs.Lines.{any_out}
use Rattle.runs.specs.Benches as Model
use Rattle.runs.specs.Benches.{offer}
use Rattle.runs.specs.Left.{left}
use Rattle.runs.specs.Calls.{close, Answer}
use Rattle.runs.specs.Tests.{fits_going, fits_closed}
use Rattle.runs.specs.Answers.{turned, answer}
use Rattle.runs.specs.WorkOffs.{WorksOff, WorkOffAnswers}
use Rattle.runs.specs.Promise.{Agrees, Rests}
use Rattle.bench.specs.declared.bench.Bench.{Bench}
use Rattle.bench.specs.declared.tokens.Going.{Going}
use Rattle.bench.specs.declared.tokens.Closed.{Closed}
use Rattle.bench.specs.declared.answers.Refused.{Refused}
use Rattle.bench.specs.Views.{bench_of, going_of, closed_of, answer_of}
use Rattle.bench.specs.Histories.{History, LeadsOn}
use Rattle.bench.specs.Turns.{HandedBack}

-- no turn is out, and the run is not closed
pub record AtWork (b : Model.Bench) : Type 0 where
  pub none_out : any_out b.line ≡ false
  pub going_on : b.closed ≡ false

-- one turn is taken and performed, under a scheduler that goes from s to s'
pub record TurnsOnce {K S : Type 0} (k : Kind) (choice : S → List ℕ → ℕ) (next : S → List ℕ → S → Type 0) (s : S) (b : Bench K) (s' : S) (b' : Bench K) : Type 0 where
  pub bench : bench_of b' ≡ turned k (choice s) (bench_of b)
  pub scheduler : next s (offer (bench_of b)) s'
  pub at_work : AtWork (bench_of b')
  pub falls : left (bench_of b').line < left (bench_of b).line
  pub run : (bench_of b').run ≡ (bench_of b).run
  pub kind : b'.kind ≡ b.kind

-- from s₀ and b₀ to s and b: whatever a work-off does from there, it does from the start
pub record Working {K S : Type 0} (k : Kind) (choice : S → List ℕ → ℕ) (next : S → List ℕ → S → Type 0) (s₀ : S) (b₀ : Bench K) (s : S) (b : Bench K) : Type 0 where
  pub works_on : (s₂ : S) (b₂ : Model.Bench) → WorksOff k S choice next s (bench_of b) s₂ b₂ → WorksOff k S choice next s₀ (bench_of b₀) s₂ b₂
  pub at_work : AtWork (bench_of b)
  pub run : (bench_of b).run ≡ (bench_of b₀).run
  pub kind : b.kind ≡ b₀.kind

-- turns are taken and performed until the run is settled
pub record Settles {K S : Type 0} (k : Kind) (choice : S → List ℕ → ℕ) (next : S → List ℕ → S → Type 0) (s : S) (b : Bench K) (s' : S) (b' : Bench K) : Type 0 where
  pub works : WorksOff k S choice next s (bench_of b) s' (bench_of b')
  pub rests : Rests (bench_of b')
  pub going_on : (bench_of b').closed ≡ false
  pub run : (bench_of b').run ≡ (bench_of b).run
  pub kind : b'.kind ≡ b.kind

-- whatever calls led to b, it agrees with serial working
abbrev pub AgreesAlways : Kind → Model.Bench → Type 0
AgreesAlways k b = (c : Card) (r : ℕ) → History k c r b → Agrees k c b

pub record WorksAll {K S : Type 0} (k : Kind) (choice : S → List ℕ → ℕ) (next : S → List ℕ → S → Type 0) (g : Going) (s : S) (b : Bench K) (r : Result Going (Refused Going)) (s' : S) (b' : Bench K) : Type 0 where
  pub answers : WorkOffAnswers k S choice next (going_of g) s (bench_of b) (answer_of (λ h. Answer.going (going_of h)) r) s' (bench_of b')
  pub back : HandedBack g r
  -- a granted call leaves a bench that can close with the state that is given on, and that agrees with serial working
  pub fits : IfOk r (λ h. fits_going (going_of h) (bench_of b') ≡ true)
  pub rests : IfOk r (λ _. Rests (bench_of b'))
  pub agrees : IfOk r (λ _. AgreesAlways k (bench_of b'))
  pub leads_on : LeadsOn k (bench_of b) (bench_of b')
  pub kind : b'.kind ≡ b.kind

pub record Closes {K : Type 0} (k : Kind) (g : Going) (b : Bench K) (r : Result Closed (Refused Going)) (b' : Bench K) : Type 0 where
  pub answers : answer k (close (going_of g)) (bench_of b) ≡ (answer_of (λ z. Answer.closed (closed_of z)) r, bench_of b')
  pub back : HandedBack g r
  pub fits : IfOk r (λ z. fits_closed (closed_of z) (bench_of b') ≡ true)
  pub agrees : IfOk r (λ _. AgreesAlways k (bench_of b'))
  pub leads_on : LeadsOn k (bench_of b) (bench_of b')
  pub kind : b'.kind ≡ b.kind
