-- Turns that are taken and performed, until the run is settled.
use Rattle.std.proofs.Common.{◌≡◌, ℕ, ◌<◌, true, false, List, sym, refl, ap, ◌∙◌, subst}
use Rattle.kinds.specs.Kinds.{Kind}
use Rattle.runs.specs.Lines.{out}
use Rattle.runs.specs.Benches as Model
use Rattle.runs.specs.Benches.{settled, offer}
use Rattle.runs.specs.Steps.{put, advanced}
use Rattle.runs.specs.Events.{can_take, has_turn, effect}
use Rattle.runs.specs.Choices.{chosen}
use Rattle.runs.specs.Left.{left}
use Rattle.runs.specs.Answers.{turned}
use Rattle.runs.specs.WorkOffs.{WorksOff, rests, works}
use Rattle.runs.proofs.WorkOffs.{turned_run as run_turned}
use Rattle.runs.proofs.Turns.{Taken, taken_out, Turns, turns_taken, chosen_taken}
use Rattle.bench.specs.declared.bench.Bench.{Bench}
use Rattle.bench.specs.Views.{bench_of}
use Rattle.bench.specs.Ends.{AtWork, TurnsOnce, Working, Settles}

-- One turn, of the task n that f chooses.

module _ (f : List ℕ → ℕ) (b : Model.Bench) {n : ℕ} (number : n ≡ chosen f (offer b)) (allowed : can_take n b.line ≡ true) where
  is_taken : Taken f b
  is_taken = chosen_taken f b (subst (λ (i : ℕ). can_take i b.line ≡ true) number allowed)

  pub given_out : has_turn n (put n out b).line ≡ true
  given_out = ap (λ (i : ℕ). has_turn i (put i out b).line) number ∙ taken_out f b is_taken

  -- ... and performed
  module _ (k : Kind) (v : Model.Bench) (e : v ≡ advanced k n (put n out b)) (w : AtWork b) where
    pub turned_is : v ≡ turned k f b
    unfolding turned effect
    turned_is = e ∙ ap (λ (i : ℕ). advanced k i (put i out b)) number

    all : Turns k f b
    all = turns_taken k f b w.going_on w.none_out is_taken

    pub turned_on : AtWork v
    turned_on = subst AtWork (sym turned_is) (record { none_out = all.none_out; going_on = all.going_on })

    pub turned_run : v.run ≡ b.run
    turned_run = ap (λ (x : Model.Bench). x.run) turned_is ∙ run_turned k f b

    pub turned_falls : left v.line < left b.line
    turned_falls = subst (λ (x : Model.Bench). left x.line < left b.line) (sym turned_is) all.falls

-- Turns in a row.

module _ {K S : Type 0} {k : Kind} {choice : S → List ℕ → ℕ} {next : S → List ℕ → S → Type 0} {s₀ : S} {b₀ : Bench K} where
  pub working_none : AtWork (bench_of b₀) → Working k choice next s₀ b₀ s₀ b₀
  working_none h = record { works_on = λ _ _ w. w; at_work = h; run = refl; kind = refl }

  pub working_more : {s s' : S} {b b' : Bench K} → Working k choice next s₀ b₀ s b → settled (bench_of b) ≡ false → TurnsOnce k choice next s b s' b' → Working k choice next s₀ b₀ s' b'
  working_more {s = s} {s' = s'} {b = b} {b' = b'} h u t = record {
    works_on = λ s₂ b₂ w. h.works_on s₂ b₂ (works u t.scheduler (subst (λ (v : Model.Bench). WorksOff k S choice next s' v s₂ b₂) t.bench w));
    at_work = t.at_work;
    run = t.run ∙ h.run;
    kind = t.kind ∙ h.kind;
  }

  pub working_on : {s s' : S} {b b' : Bench K} → Working k choice next s₀ b₀ s b → Working k choice next s b s' b' → Working k choice next s₀ b₀ s' b'
  working_on h w = record {
    works_on = λ s₂ b₂ x. h.works_on s₂ b₂ (w.works_on s₂ b₂ x);
    at_work = w.at_work;
    run = w.run ∙ h.run;
    kind = w.kind ∙ h.kind;
  }

  pub working_all : {s : S} {b : Bench K} → Working k choice next s₀ b₀ s b → settled (bench_of b) ≡ true → Settles k choice next s₀ b₀ s b
  working_all {s = s} {b = b} h e = record {
    works = h.works_on s (bench_of b) (rests e);
    rests = record { settled_yet = e; none_out = h.at_work.none_out };
    going_on = h.at_work.going_on;
    run = h.run;
    kind = h.kind;
  }
