use Rattle.std.proofs.Common.{◌≡◌, ℕ, ◌+◌, ◌<◌, Bool, true, false, cond, ◌⊎◌, get_or, vec_items, sym, refl, ap, ◌∙◌, subst, inl, inr, ⊎_elim, arith}
use Rattle.std.proofs.lemmas.Bool.{cases_lt}
use Rattle.cards.specs.Sections.{no_declaration}
use Rattle.cards.proofs.section.Section.push.Goals as goal

-- a place below the new length is below the old one, or it is the new place
below_grown : (ok : Bool) (n m i : ℕ) → m ≡ cond ok (n + 1) n → i < m → (i < n) ⊎ ((ok ≡ true) × (i ≡ n))
below_grown true n m i e h = ⊎_elim (λ l. inl l) (λ l. inr (refl, omega arith)) (cases_lt i n)
below_grown false n m i e h = inl (omega arith)

pub invariant_of-self : goal.invariant_of-self
invariant_of-self c = record {
  pointers = λ i h.
      ⊎_elim
      (λ l. subst (λ x. x.pointer < 4) (sym (c.push.ensures.by_index.0 i no_declaration l)) (c.args.self.now.pointers i l))
      (λ p. subst (λ x. x.pointer < 4) (sym (ap (λ k. get_or (vec_items c.push.new.self) k no_declaration) p.1 ∙ c.push.ensures.by_index.1 no_declaration p.0)) c.args.pointer.small)
      (below_grown _ _ _ i c.push.ensures.len h);
}
