-- One append after another.
use Rattle.std.proofs.Common.{◌≡◌, ℕ, ◌+◌, true, false, List, [], ◌++◌, length, is_err, Ok, Err, vec_items, vec_len, Result, Vec, sym, refl, ap, ◌∙◌, append_assoc, append-nil, arith, length-append}
use Rattle.std.specs.declared.alloc.AllocError.{AllocError}
use Rattle.std.specs.declared.alloc.Global.{Global}
use Rattle.sheets.specs.Appends.{Appends, Holds}

-- nothing is appended
pub nothing : (v : Vec ℕ Global) → Appends v v [] (Ok tt)
nothing v = record { items = sym (append-nil (vec_items v)); capacity = omega arith; succeeds = λ _. refl }

len_after : (u v : Vec ℕ Global) (s : List ℕ) → vec_items v ≡ vec_items u ++ s → vec_len v ≡ vec_len u + length s
len_after u v s e = v.ok.0 ∙ ap length e ∙ length-append (vec_items u) s ∙ ap (λ n. n + length s) (sym u.ok.0)

holds_then : (xs ys zs s t : List ℕ) (r : Result (Unit {0}) AllocError) → ys ≡ xs ++ s → Holds ys zs t r → Holds xs zs (s ++ t) r
holds_then xs ys zs s t (Ok _) e h = h ∙ ap (λ l. l ++ t) e ∙ append_assoc xs s t
holds_then xs ys zs s t (Err _) e h = (s ++ h.0, h.1 ∙ ap (λ l. l ++ h.0) e ∙ append_assoc xs s h.0)

holds_part : (xs ys s : List ℕ) (r : Result (Unit {0}) AllocError) → is_err r ≡ true → (part : List ℕ) × (ys ≡ xs ++ part) → Holds xs ys s r
holds_part xs ys s (Ok _) e h = absurd (let z : ◌≡◌ {A = ℕ} 0 1 = cc in omega arith)
holds_part xs ys s (Err _) e h = h

-- the first text was appended, and then the second, or part of it
pub then : {u v w : Vec ℕ Global} {s t whole : List ℕ} {r : Result (Unit {0}) AllocError} → whole ≡ s ++ t → Appends u v s (Ok tt) → Appends v w t r → Appends u w whole r
then {u = u} {v = v} {w = w} {s = s} {t = t} {r = r} e a b =
    rw e
    record {
      items = holds_then (vec_items u) (vec_items v) (vec_items w) s t r a.items b.items;
      capacity = omega arith;
      succeeds = λ h. b.succeeds (omega (arith, len_after u v s a.items, length-append s t));
    }

-- the first text failed, so the second was not tried
pub stopped : {u v : Vec ℕ Global} {s whole : List ℕ} {e : AllocError} {r : Result (Unit {0}) AllocError} (t : List ℕ) → whole ≡ s ++ t → is_err r ≡ true → Appends u v s (Err e) → Appends u v whole r
stopped {u = u} {v = v} {s = s} {r = r} t e failed a =
    rw e
    record {
      items = holds_part (vec_items u) (vec_items v) (s ++ t) r failed a.items;
      capacity = a.capacity;
      succeeds = λ h. absurd (let z : false ≡ true = a.succeeds (omega (arith, length-append s t)) in let y : ◌≡◌ {A = ℕ} 0 1 = cc in omega arith);
    }
