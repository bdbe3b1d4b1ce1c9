-- What the changes of a bench keep: its run number, whether it is closed, and the count of steps but for one.
use Rattle.std.proofs.Common.{◌≡◌, ℕ, Some, None, Option, refl}
use Rattle.std.specs.Option.{option_map_or}
use Rattle.kinds.specs.Kinds.{Kind}
use Rattle.working.specs.Requests.{Reply, faulted, stepped}
use Rattle.runs.specs.Lines.{Status, waiting, out, Member, find}
use Rattle.runs.specs.Benches.{Bench, bench}
use Rattle.runs.specs.Steps.{marked, after_reply, replied, step, put, advanced, shut}
use Rattle.runs.specs.Events.{Event, took, performed, handed_back, effect}

put_keeps : {X : Type 0} (field : Bench → X) (n : ℕ) (u : Status) (b : Bench) → ((s : Member) → field (marked b s u) ≡ field b) → field (put n u b) ≡ field b
unfolding put
put_keeps field n u b h = go (find n b.line)
  where
    go : (o : Option Member) → field (option_map_or (λ s. marked b s u) o b) ≡ field b
    go None = refl
    go (Some s) = h s

pub put_run : (n : ℕ) (u : Status) (b : Bench) → (put n u b).run ≡ b.run
unfolding marked bench
put_run n u b = put_keeps (λ b. b.run) n u b (λ s. refl)

pub put_closed : (n : ℕ) (u : Status) (b : Bench) → (put n u b).closed ≡ b.closed
unfolding marked bench
put_closed n u b = put_keeps (λ b. b.closed) n u b (λ s. refl)

pub put_steps : (n : ℕ) (u : Status) (b : Bench) → (put n u b).steps ≡ b.steps
unfolding marked bench
put_steps n u b = put_keeps (λ b. b.steps) n u b (λ s. refl)

advanced_keeps : {X : Type 0} (field : Bench → X) (k : Kind) (n : ℕ) (b : Bench) → ((s : Member) (p : Reply) → field (after_reply k b s p) ≡ field b) → field (advanced k n b) ≡ field b
unfolding advanced step
advanced_keeps field k n b h = go (find n b.line)
  where
    go : (o : Option Member) → field (option_map_or (step k b) o b) ≡ field b
    go None = refl
    go (Some s) = h s (replied k b s)

advanced_run : (k : Kind) (n : ℕ) (b : Bench) → (advanced k n b).run ≡ b.run
unfolding after_reply marked bench
advanced_run k n b = advanced_keeps (λ b. b.run) k n b go
  where
    go : (s : Member) (p : Reply) → (after_reply k b s p).run ≡ b.run
    go s (faulted f l) = refl
    go s (stepped x) = refl

pub advanced_closed : (k : Kind) (n : ℕ) (b : Bench) → (advanced k n b).closed ≡ b.closed
unfolding after_reply marked bench
advanced_closed k n b = advanced_keeps (λ b. b.closed) k n b go
  where
    go : (s : Member) (p : Reply) → (after_reply k b s p).closed ≡ b.closed
    go s (faulted f l) = refl
    go s (stepped x) = refl

pub effect_run : (k : Kind) (e : Event) (b : Bench) → (effect k e b).run ≡ b.run
unfolding effect shut bench
effect_run k (took n) b = put_run n out b
effect_run k (performed n) b = advanced_run k n b
effect_run k (handed_back n) b = put_run n waiting b
effect_run k Event.closed b = refl
