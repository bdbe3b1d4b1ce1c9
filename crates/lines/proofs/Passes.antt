-- One pass over a queue, by turns of its loop.
use Rattle.std.proofs.Common.{◌≡◌, ℕ, ◌+◌, ◌<◌, ◌≤◌, Bool, true, false, not, ◌&&◌, ◌||◌, eqb, ◌⊎◌, List, ◌∷◌, length, get_or, drop, set, sym, refl, ap, ◌∙◌, inl, inr}
use Rattle.std.proofs.lemmas.List.{at_drop_more, at_drop_all, get_or-set_same, get_or-set_other}
use Rattle.std.proofs.lemmas.Bool.{cases_eq, eq-eqb, ne_eqb}
use Rattle.runs.specs.declared.entry.Entry.{Entry}
use Rattle.lines.specs.declared.clear.Clear.{Clear}
use Rattle.working.specs.Tasks.{nothing}
use Rattle.lines.specs.Changes.{entry}
use Rattle.lines.specs.Clears.{past, lets, clear_from}

-- what a read past the end would give
abbrev pub no_entry : Entry
no_entry = entry 0 nothing

shuffle : (l s f : Bool) → (s && (f && l)) ≡ ((l && s) && f)
shuffle true true true = refl
shuffle true true false = refl
shuffle true false true = refl
shuffle true false false = refl
shuffle false true true = refl
shuffle false true false = refl
shuffle false false true = refl
shuffle false false false = refl

-- the flag of task n, past the entry of task k
one_flag : (fl : List Bool) (k n : ℕ) (l s : Bool) → k < length fl → (k ≡ n) ⊎ (k ≡ n → ⊥) → (s && get_or (set fl k (get_or fl k false && l)) n false) ≡ (((not (eqb k n) || l) && s) && get_or fl n false)
one_flag fl k n l s lt (inl e) =
    ap (λ (m : ℕ). s && get_or (set fl k (get_or fl k false && l)) m false) (sym e)
    ∙ ap (λ (f : Bool). s && f) (get_or-set_same fl k (get_or fl k false && l) false lt)
    ∙ shuffle l s (get_or fl k false)
    ∙ ap (λ (b : Bool). ((not b || l) && s) && get_or fl k false) (sym (eq-eqb k k refl))
    ∙ ap (λ (m : ℕ). ((not (eqb k m) || l) && s) && get_or fl m false) e
one_flag fl k n l s lt (inr f) =
    ap (λ (g : Bool). s && g) (get_or-set_other fl k n (get_or fl k false && l) false (λ e. f (sym e)))
    ∙ ap (λ (b : Bool). ((not b || l) && s) && get_or fl n false) (sym (ne_eqb k n f))

pub pass_more : (es : List Entry) (i : ℕ) (e : Entry) (fl : List Bool) (c c' : Clear) (b : Bool) (n : ℕ) → i < length es → e.number < length fl → e ≡ get_or es i e
    → b ≡ (get_or fl e.number false && lets c e.declared) → c' ≡ past c e.declared
    → (clear_from n c' (drop (i + 1) es) && get_or (set fl e.number b) n false) ≡ (clear_from n c (drop i es) && get_or fl n false)
unfolding clear_from
pass_more es i e fl c c' b n lt in' is f g =
    ap (λ (x : Bool). clear_from n c' (drop (i + 1) es) && get_or (set fl e.number x) n false) f
    ∙ ap (λ (x : Clear). clear_from n x (drop (i + 1) es) && get_or (set fl e.number (get_or fl e.number false && lets c e.declared)) n false) g
    ∙ one_flag fl e.number n (lets c e.declared) (clear_from n (past c e.declared) (drop (i + 1) es)) in' (cases_eq e.number n)
    ∙ ap (λ (x : Entry). clear_from n c (x ∷ drop (i + 1) es) && get_or fl n false) is
    ∙ ap (λ (x : Bool). x && get_or fl n false) (sym (at_drop_more (clear_from n c) es i e lt))

pub pass_all : (es : List Entry) (i : ℕ) (c : Clear) (n : ℕ) (x y : Bool) → length es ≤ i → (clear_from n c (drop i es) && x) ≡ y → x ≡ y
unfolding clear_from
pass_all es i c n x y ge e = ap (λ (b : Bool). b && x) (sym (at_drop_all (clear_from n c) es i ge)) ∙ e
