-- Serial working ends within the card's bounds, and its function and its relation agree.
use Rattle.std.proofs.Common.{◌≡◌, ℕ, zero, suc, ◌+◌, ◌<◌, ◌≤◌, ◌↔◌, List, [], ◌∷◌, ◌++◌, Some, sym, refl, ◌∙◌, arith}
use Rattle.kinds.specs.Kinds.{Kind}
use Rattle.cards.specs.Code.{Card}
use Rattle.cards.specs.Bounds.{card_steps, card_tasks}
use Rattle.working.specs.Tasks.{Task, main, starting_words}
use Rattle.working.specs.Requests.{FaultKind, Next, request, stored, Reply, faulted, stepped, reply}
use Rattle.working.specs.Serial.{words, fault, Result, result, segment, made_by, by_reply, serial, Serial, done, stop, more, serially, Serially}
use Rattle.working.proofs.Fine.{fine_reply, total_steps, total_tasks}

pub total_steps_append : (xs ys : List Task) → total_steps (xs ++ ys) ≡ total_steps xs + total_steps ys
unfolding total_steps
total_steps_append [] ys = omega arith
total_steps_append (x ∷ xs) ys = let h = total_steps_append xs ys in omega arith

pub total_tasks_append : (xs ys : List Task) → total_tasks (xs ++ ys) ≡ total_tasks xs + total_tasks ys
unfolding total_tasks
total_tasks_append [] ys = omega arith
total_tasks_append (x ∷ xs) ys = let h = total_tasks_append xs ys in omega arith

-- a step of t leaves less to do
pub falls : (k : Kind) (m : List ℕ) (t : Task) (ts : List Task) (x : Next) → reply m (request k t) ≡ stepped x → total_steps (segment x ++ ts) < total_steps (t ∷ ts)
unfolding total_steps
falls k m t ts x e = let h = (fine_reply k m t x e).spends in omega (arith, total_steps_append (segment x) ts)

-- The function and the relation agree.

by_fault : {X : Type 0} (p : Reply) (a : FaultKind → ℕ → X) (b : Next → X) (f : FaultKind) (l : ℕ) → p ≡ faulted f l → by_reply p a b ≡ a f l
unfolding by_reply
by_fault p a b f l e = rw e

by_step : {X : Type 0} (p : Reply) (a : FaultKind → ℕ → X) (b : Next → X) (x : Next) → p ≡ stepped x → by_reply p a b ≡ b x
unfolding by_reply
by_step p a b x e = rw e

pub serial_related : (k : Kind) (fuel : ℕ) (m : List ℕ) (line : List Task) (n c : ℕ) (r : Result) → serial k fuel m line n c ≡ Some r → Serial k m line n c r
unfolding serial
serial_related k zero m [] n c r e = let p : result (words m) n c ≡ r = cc in rw (← p) done
serial_related k zero m (t ∷ ts) n c r e = cc
serial_related k (suc fuel) m [] n c r e = let p : result (words m) n c ≡ r = cc in rw (← p) done
serial_related k (suc fuel) m (t ∷ ts) n c r e = go (reply m (request k t)) refl (λ x. serial_related k fuel (stored k m (request k t)) (segment x ++ ts) (suc n) (c + made_by x) r)
  where
    go : (p : Reply) → reply m (request k t) ≡ p → ((x : Next) → serial k fuel (stored k m (request k t)) (segment x ++ ts) (suc n) (c + made_by x) ≡ Some r → Serial k (stored k m (request k t)) (segment x ++ ts) (suc n) (c + made_by x) r) → Serial k m (t ∷ ts) n c r
    go (faulted f l) d h = let p : result (fault f l t.place) n c ≡ r = let w = by_fault (reply m (request k t)) (λ f l. Some (result (fault f l t.place) n c)) (λ x. serial k fuel (stored k m (request k t)) (segment x ++ ts) (suc n) (c + made_by x)) f l d in cc in rw (← p) (stop d)
    go (stepped x) d h = more d (h x (sym (by_step (reply m (request k t)) (λ f l. Some (result (fault f l t.place) n c)) (λ x. serial k fuel (stored k m (request k t)) (segment x ++ ts) (suc n) (c + made_by x)) x d) ∙ e))

pub related_serial : (k : Kind) {m : List ℕ} {line : List Task} {n c : ℕ} {r : Result} → Serial k m line n c r → (fuel : ℕ) → total_steps line ≤ fuel → serial k fuel m line n c ≡ Some r
unfolding serial total_steps
related_serial k done zero h = refl
related_serial k done (suc fuel) h = refl
related_serial k (stop d) zero h = absurd (omega arith)
related_serial k (stop d) (suc fuel) h = by_fault _ _ _ _ _ d
related_serial k (more d s) zero h = absurd (omega arith)
related_serial k (more {m = m} {t = t} {ts = ts} {x = x} d s) (suc fuel) h = by_step _ _ _ _ d ∙ related_serial k s fuel (omega (arith, falls k m t ts x d))

-- serial working ends
pub serial_ends : (k : Kind) (fuel : ℕ) (m : List ℕ) (line : List Task) (n c : ℕ) → total_steps line ≤ fuel → (r : Result) × Serial k m line n c r
unfolding total_steps
serial_ends k fuel m [] n c h = (_, done)
serial_ends k zero m (t ∷ ts) n c h = absurd (omega arith)
serial_ends k (suc fuel) m (t ∷ ts) n c h = go (reply m (request k t)) refl (λ x. serial_ends k fuel (stored k m (request k t)) (segment x ++ ts) (suc n) (c + made_by x))
  where
    go : (p : Reply) → reply m (request k t) ≡ p → ((x : Next) → total_steps (segment x ++ ts) ≤ fuel → (r : Result) × Serial k (stored k m (request k t)) (segment x ++ ts) (suc n) (c + made_by x) r) → (r : Result) × Serial k m (t ∷ ts) n c r
    go (faulted f l) d g = (_, stop d)
    go (stepped x) d g = let s = g x (omega (arith, falls k m t ts x d)) in (s.0, more d s.1)

main_steps : (k : Kind) (c : Card) → total_steps (main k c ∷ []) ≡ card_steps c
unfolding total_steps main
main_steps k c = omega arith

pub serially_ends : (k : Kind) (c : Card) → (r : Result) × Serially k c r
serially_ends k c = serial_ends k (card_steps c) (starting_words k c) (main k c ∷ []) 0 1 (omega (arith, main_steps k c))

pub serially_agrees : (k : Kind) (c : Card) (r : Result) → (serially k c ≡ Some r) ↔ Serially k c r
unfolding serially
serially_agrees k c r = (serial_related k (card_steps c) _ _ _ _ r, λ s. related_serial k s (card_steps c) (omega (arith, main_steps k c)))

-- Serial working keeps the bounds.

pub makes_fewer : (k : Kind) (m : List ℕ) (t : Task) (ts : List Task) (x : Next) → reply m (request k t) ≡ stepped x → made_by x + total_tasks (segment x ++ ts) ≤ total_tasks (t ∷ ts)
unfolding total_tasks
makes_fewer k m t ts x e = let h = (fine_reply k m t x e).counts in omega (arith, total_tasks_append (segment x) ts)

bounded : (k : Kind) {m : List ℕ} {line : List Task} {n c : ℕ} {r : Result} → Serial k m line n c r → (r.steps ≤ n + total_steps line) × (r.made ≤ c + total_tasks line)
bounded k done = omega arith
bounded k (stop d) = omega arith
bounded k (more {m = m} {t = t} {ts = ts} {x = x} d s) = let h = bounded k s in omega (arith, falls k m t ts x d, makes_fewer k m t ts x d)

main_tasks : (k : Kind) (c : Card) → total_tasks (main k c ∷ []) + 1 ≡ card_tasks c
unfolding total_tasks main
main_tasks k c = omega arith

pub serially_bounded : (k : Kind) (c : Card) (r : Result) → Serially k c r → (r.steps ≤ card_steps c) × (r.made ≤ card_tasks c)
serially_bounded k c r s = let h = bounded k s in omega (arith, main_steps k c, main_tasks k c)
