-- What a row holds once a part of it is moved by one place.
use Rattle.std.proofs.Common.{◌≡◌, ℕ, suc, ◌+◌, ◌-◌, ◌<◌, List, [], ◌∷◌, ◌++◌, length, take, drop, set, sym, ap, ◌∙◌, ap₂, append-nil, add-one, arith, length-append, length-take}
use lib.Seq.{paste}
use Rattle.std.specs.List.{insert, remove}
use Rattle.std.proofs.lemmas.List.{set_split, take-take, take-append-le, drop_at, drop_all, drop-take, take_rest}

-- one place up, with x in the gap
pub moved_up : {A : Type 0} (xs : List A) (at : ℕ) (x : A) → at < length xs → set (paste xs (at + 1) (drop at xs) (length xs - 1 - at)) at x ≡ insert (take (length xs - 1) xs) at x
moved_up {A} xs at x lt =
    let n = length xs - 1 - at in
    let front : List A = take (at + 1) xs in
    let back : List A = take n (drop at xs) in
    let long : length front ≡ suc at = simp length-take (omega arith) in
    let end : drop (at + 1 + n) xs ≡ [] = drop_all (at + 1 + n) xs (omega arith) in
    let count : length xs - 1 ≡ at + n = omega arith in
    ap (λ (l : List A). set ((front ++ back) ++ l) at x) end
    ∙ ap (λ (l : List A). set l at x) (append-nil (front ++ back))
    ∙ set_split (front ++ back) at x (simp length-append (omega (arith, long)))
    ∙ ap₂ (λ (f b : List A). f ++ x ∷ b) (take-append-le at front back (omega (arith, long)) ∙ take-take at (at + 1) xs (omega arith)) (drop_at front back (suc at) long)
    ∙ sym (ap₂ (λ (f b : List A). f ++ x ∷ b) (take-take at (length xs - 1) xs (omega arith)) (ap (λ (m : ℕ). drop at (take m xs)) count ∙ drop-take at n xs))

-- one place down
pub moved_down : {A : Type 0} (xs : List A) (at : ℕ) → at < length xs → paste xs at (drop (at + 1) xs) (length xs - (at + 1)) ≡ remove xs at ++ drop (length xs - 1) xs
moved_down {A} xs at lt =
    let count : at + (length xs - (at + 1)) ≡ length xs - 1 = omega arith in
    ap₂ (λ (b e : List A). (take at xs ++ b) ++ e) (take_rest xs (at + 1) ∙ ap (λ (m : ℕ). drop m xs) (add-one at)) (ap (λ (m : ℕ). drop m xs) count)
