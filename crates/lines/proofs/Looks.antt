-- The offer by turns of its loop, and a look at a queue.
use Rattle.std.proofs.Common.{◌≡◌, ℕ, ◌+◌, ◌<◌, ◌≤◌, Bool, true, false, cond, ◌&&◌, List, [], ◌∷◌, ◌++◌, length, get_or, take, set, Some, None, filter, Option, sym, ap, ◌∙◌, ap₂, append-nil, arith, Bor, MatchOption}
use mir.Val.{bool_byte}
use Rattle.std.specs.Option.{option_map}
use Rattle.std.specs.List.{slice_get}
use Rattle.std.proofs.lemmas.Option.{slice_get_past, slice_get-get_or}
use Rattle.std.proofs.lemmas.List.Elements.{filter_more}
use Rattle.std.proofs.lemmas.List.{take_all, take_more_set, take-set}
use Rattle.runs.specs.declared.entry.Entry.{Entry}
use Rattle.lines.specs.declared.state.State.{State}
use Rattle.lines.specs.States.{is_waiting}
use Rattle.lines.specs.Stored.{state_at}
use Rattle.lines.specs.Offers.{offers}

pub offers_is : (ss : List State) (clear : List Bool) (n : ℕ) (w : Bool) → w ≡ is_waiting (state_at ss n) → (w && get_or clear n false) ≡ offers ss clear n
unfolding offers
offers_is ss clear n w e = ap (λ (x : Bool). x && get_or clear n false) e

pub at_most_one : (b : Bool) → bool_byte b ≤ 1
at_most_one true = omega arith
at_most_one false = omega arith

-- one number more, where the test holds
pub fill_more : (t : ℕ → Bool) (ns : List ℕ) (i : ℕ) → i < length ns → (into : List ℕ) (n : ℕ) → n < length into → take n into ≡ filter t (take i ns) → (b : Bool) → b ≡ t (get_or ns i 0) → take (n + bool_byte b) (set into n (get_or ns i 0)) ≡ filter t (take (i + 1) ns)
fill_more t ns i lt into n at h b is = go b ∙ ap₂ (λ (l : List ℕ) (c : Bool). l ++ cond c (get_or ns i 0 ∷ []) []) h is ∙ sym (filter_more t ns i 0 lt)
  where
    go : (b : Bool) → take (n + bool_byte b) (set into n (get_or ns i 0)) ≡ take n into ++ cond b (get_or ns i 0 ∷ []) []
    go true = take_more_set into n (get_or ns i 0) at
    go false = let same : n + 0 ≡ n = omega arith in ap (λ (j : ℕ). take j (set into n (get_or ns i 0))) same ∙ take-set into n (get_or ns i 0) ∙ sym (append-nil (take n into))

pub kept_all : (t : ℕ → Bool) (ns : List ℕ) (i : ℕ) → length ns ≤ i → filter t (take i ns) ≡ filter t ns
kept_all t ns i le = ap (filter t) (take_all i ns le)

-- The entry at a place.

pub entry_got : (es : List Entry) (i : ℕ) (r : Option (Bor Entry)) → MatchOption r (length es ≤ i) (λ x. (i < length es) × ((d : Entry) → x.now ≡ get_or es i d)) → option_map (λ x. x.now) r ≡ slice_get es i
entry_got es i None h = sym (slice_get_past es i h)
entry_got es i (Some x) h = ap Some (h.1 x.now) ∙ sym (slice_get-get_or es i x.now h.0)
