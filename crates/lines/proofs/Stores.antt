-- The stored queues as lists.
use Rattle.std.proofs.Common.{◌≡◌, ℕ, ◌+◌, ◌<◌, Bool, true, ◌&&◌, List, [], length, get_or, set, replicate, vec_items, sym, refl, ap, ◌∙◌, ⊎_elim, add-one}
use Rattle.runs.specs.declared.entry.Entry.{Entry}
use Rattle.std.proofs.lemmas.List.{length-map, get_or-map, map-set, get_or_past, get_or-replicate, length-replicate}
use Rattle.std.proofs.lemmas.Bool.{cases_lt}
use Rattle.lines.specs.declared.queue.Queue.{Queue}
use Rattle.runs.specs.Ready.{each}
use Rattle.lines.specs.Stored.{queues_of}
use Rattle.lines.specs.Clears.{at_first, clear_from, clear_in}

pub length_queues : (qs : List Queue) → length (queues_of qs) ≡ length qs
length_queues qs = length-map qs (λ (q : Queue). vec_items q.entries)

pub getD_queues : (qs : List Queue) (o : ℕ) (q : Queue) → o < length qs → q ≡ get_or qs o q → get_or (queues_of qs) o [] ≡ vec_items q.entries
getD_queues qs o q lt is = get_or-map (λ (q : Queue). vec_items q.entries) qs o q [] lt ∙ ap (λ (q : Queue). vec_items q.entries) (sym is)

pub set_queues : (qs : List Queue) (o : ℕ) (q : Queue) → queues_of (set qs o q) ≡ set (queues_of qs) o (vec_items q.entries)
set_queues qs o q = map-set (λ (q : Queue). vec_items q.entries) qs o q

-- the test over the queues, by turns of its loop

pub each_none : (f : ℕ → Bool) → each 0 f ≡ true
unfolding each
each_none f = refl

pub each_more : (f : ℕ → Bool) (o : ℕ) (x y : Bool) → y ≡ each o f → x ≡ (f o && y) → x ≡ each (o + 1) f
unfolding each
each_more f o x y e g = g ∙ ap (λ (b : Bool). f o && b) e ∙ ap (λ (k : ℕ). each k f) (sym (add-one o))

pub clear_all : (qs : List Queue) (n o : ℕ) (b : Bool) → o ≡ length qs → b ≡ each o (λ o. clear_from n at_first (get_or (queues_of qs) o [])) → b ≡ clear_in (queues_of qs) n
unfolding clear_in
clear_all qs n o b e h = h ∙ ap (λ (k : ℕ). each k (λ o. clear_from n at_first (get_or (queues_of qs) o []))) (e ∙ sym (length_queues qs))

-- Empty queues.

pub getD_empty : (qs : List (List Entry)) (n o : ℕ) → qs ≡ replicate n [] → get_or qs o [] ≡ []
getD_empty qs n o e = ap (λ (l : List (List Entry)). get_or l o []) e ∙ ⊎_elim (λ l. get_or-replicate n o [] [] l) (λ g. get_or_past (replicate n []) o [] (rw length-replicate g)) (cases_lt o n)
