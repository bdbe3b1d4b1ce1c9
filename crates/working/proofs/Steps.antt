-- A step at the head of the work.
use Rattle.std.proofs.Common.{◌≡◌, ℕ, zero, suc, ◌+◌, ◌≤◌, max, List, [], ◌∷◌, ◌++◌, sym, refl, ap, ◌∙◌, subst, arith, Bor, vec_items, Ok, Err}
use Rattle.kinds.specs.Kinds.{Kind}
use Rattle.cards.specs.Code.{Block, end, next, Statement, ◌before◌}
use Rattle.cards.specs.Bounds.{task_bound, statement_tasks, depth, statement_depth}
use Rattle.cards.specs.declared.section.Section.{Section}
use Rattle.cards.specs.declared.tree.Block as tree
use Rattle.cards.specs.declared.tree.Step.{Step}
use Rattle.cards.specs.Trees.{block_of, statement_of}
use Rattle.working.specs.Tasks.{Task}
use Rattle.working.specs.Requests.{declaring, quiet, leaves, goes, makes, changed, continued, statement_request, block_request, request, stored, stepped, reply}
use Rattle.working.specs.declared.fault.Fault.{Fault}
use Rattle.working.specs.declared.fault.Refused.{Refused}
use Rattle.working.specs.declared.place.Place.{Place}
use Rattle.working.specs.declared.record.Record.{Record}
use Rattle.working.specs.declared.task.Task as Rust
use Rattle.working.specs.declared.frame.Rounds.{Rounds}
use Rattle.working.specs.declared.moves.Head.TheVariants.{Nothing, Next, Round}
use Rattle.working.specs.declared.work.Work.{Work}
use Rattle.working.specs.declared.work.Fresh.{Fresh}
use Rattle.working.specs.declared.effect.Effect.TheVariants.{Passes, Amends, Enters, Repeats, Makes}
use Rattle.working.specs.declared.step.Stepped.TheVariants.{Went, Amended, Finished, Made}
use Rattle.working.specs.Works.{ranks_of, work_of, below, over, over_both, step_of, Fits, Few, Stays, Heads, after_rounds}
use Rattle.working.specs.Records.{task_with, ChildRecord}
use Rattle.working.specs.Effects.{Did, Does}
use Rattle.working.specs.Steps.{task_of, model_of, Answered}
use Rattle.working.proofs.Fine.{task_bound_before}

-- the work of w begins with the statement of s
module _ (w : Work) (s : Step) (at : block_of w.at.now ≡ step_of s (block_of s.rest)) where
  pub at_work : work_of w ≡ step_of s (over (block_of s.rest) w)
  unfolding ◌before◌
  at_work = ap (λ (x : Block). x before below w) at

  pub fits_rest : Fits w (depth (block_of s.rest))
  unfolding depth
  fits_rest = omega (arith, w.fits, ap depth at)

  pub fits_in : (n : ℕ) → n ≤ statement_depth (statement_of s.statement) → Fits w n
  unfolding depth
  fits_in n h = omega (arith, w.fits, ap depth at)

  few_at : w.children + (statement_tasks (statement_of s.statement) + task_bound (over (block_of s.rest) w)) ≤ 63
  unfolding task_bound
  few_at = omega (arith, w.few, ap task_bound at_work)

  pub few_rest : Few w (over (block_of s.rest) w)
  few_rest = omega (arith, few_at)

  pub few_in : (x : Block) → task_bound x ≤ statement_tasks (statement_of s.statement) → Few w (over_both x (block_of s.rest) w)
  few_in x h = omega (arith, few_at, task_bound_before x (over (block_of s.rest) w))

  pub few_task : (x : Block) → suc (task_bound x) ≤ statement_tasks (statement_of s.statement) → Few w (next 0 (Statement.task [] x) (over (block_of s.rest) w))
  unfolding task_bound
  few_task x h = omega (arith, few_at)

  pub few_rounds : (n : ℕ) (x : Block) → statement_of s.statement ≡ Statement.repeat n x → Few w (next s.line (Statement.repeat n x) (over (block_of s.rest) w))
  unfolding task_bound
  few_rounds n x e = omega (arith, few_at, ap statement_tasks e)

  pub fits_rounds : (n : ℕ) (x : Block) → statement_of s.statement ≡ Statement.repeat n x → Fits w (max (suc (depth x)) (depth (block_of s.rest)))
  unfolding depth
  fits_rounds n x e = omega (arith, w.fits, ap depth at, ap statement_depth e)

request_step : (k : Kind) (t : Task) (l : ℕ) (s : Statement) (b : Block) → t.work ≡ next l s b → request k t ≡ statement_request k t l s b
unfolding request block_request
request_step k t l s b e = ap (block_request k t) e

request_end : (k : Kind) (t : Task) → t.work ≡ end → request k t ≡ quiet leaves
unfolding request block_request
request_end k t e = ap (block_request k t) e

-- the task where work moved on
moved : (r : Record) (p : List ℕ) (c : ℕ) (b : Block) (w : Work) → ranks_of w.place ≡ p → w.children ≡ c → work_of w ≡ b → task_with r p c b ≡ task_of r w
moved r p c b w e f h =
    ap (λ (x : List ℕ). task_with r x c b) (sym e) ∙ ap (λ (x : ℕ). task_with r (ranks_of w.place) x b) (sym f) ∙ ap (λ (x : Block). task_with r (ranks_of w.place) w.children x) (sym h)

-- the statement of a repeat
pub repeats_is : {k : Kind} {r r' : Record} {m m' : List ℕ} (s : Step) (n : ℕ) (x : Bor tree.Block) → Does k r m s.line (statement_of s.statement) (Ok (Repeats n x)) r' m' → (statement_of s.statement ≡ Statement.repeat n (block_of x.now)) × (r' ≡ r) × (m' ≡ m)
unfolding Did
repeats_is s n x d = d.did [] 0 end end

-- a repeat's step
repeat_request : (k : Kind) (t : Task) (l n : ℕ) (x b : Block) → statement_request k t l (Statement.repeat n x) b ≡ quiet (goes (continued t (after_rounds l n x b)))
unfolding statement_request
repeat_request k t l zero x b = refl
repeat_request k t l (suc n) x b = refl

module _ (k : Kind) (m : List ℕ) (t t' : Rust.Task) where
  pub answers_finished : Heads Nothing t.work t'.work → Stays t.work t'.work → t'.own ≡ t.own → Answered k t m (Ok Finished) t' m
  unfolding Answered reply stored
  answers_finished h s e =
      let same = ap (λ (y : Record). task_of y t'.work) e ∙ sym (moved t.own (ranks_of t.work.place) t.work.children (work_of t.work) t'.work (ap ranks_of s.0) s.1 (h.1 ∙ sym h.0)) in
      (ap (reply m) (request_end k (model_of t) h.0), ap (stored k m) (sym (request_end k (model_of t) h.0)), same)

  -- a round of n is begun
  answers_round : (l n : ℕ) (x b : Block) → work_of t.work ≡ next l (Statement.repeat n x) b → work_of t'.work ≡ after_rounds l n x b → Stays t.work t'.work → t'.own ≡ t.own → Answered k t m (Ok Went) t' m
  unfolding Answered reply stored continued changed
  answers_round l n x b e f s a =
      let q : request k (model_of t) ≡ quiet (goes (model_of t')) =
      request_step k (model_of t) l (Statement.repeat n x) b e ∙ repeat_request k (model_of t) l n x b
      ∙ ap (λ (y : Task). quiet (goes y)) (moved t.own (ranks_of t.work.place) t.work.children (after_rounds l n x b) t'.work (ap ranks_of s.0) s.1 f)
      ∙ ap (λ (y : Record). quiet (goes (task_of y t'.work))) (sym a) in
      (ap (reply m) q, ap (stored k m) (sym q))

stays_on : (u v w : Work) → Stays u v → Stays v w → Stays u w
stays_on u v w s t = (t.0 ∙ s.0, t.1 ∙ s.1)

-- u is what is left of the work of t at its head
module _ (k : Kind) (m : List ℕ) (t t' : Rust.Task) (u : Work) (stays : Stays t.work u) where
  pub answers_rounds : (q : Rounds) → Heads (Round q) t.work u → work_of t'.work ≡ after_rounds q.line q.left (block_of q.body.now) (over (block_of q.rest.now) u) → Stays u t'.work → t'.own ≡ t.own → Answered k t m (Ok Went) t' m
  answers_rounds q h e s a = answers_round k m t t' q.line q.left (block_of q.body.now) (over (block_of q.rest.now) u) h.0 e (stays_on t.work u t'.work stays s) a

  -- it is the step of s
  module _ (m' : List ℕ) (s : Bor Step) (head : Heads (Next s) t.work u) where
    asked : request k (model_of t) ≡ statement_request k (model_of t) s.now.line (statement_of s.now.statement) (over (block_of s.now.rest) u)
    asked = request_step k (model_of t) s.now.line (statement_of s.now.statement) (over (block_of s.now.rest) u) (sym head.0 ∙ at_work u s.now head.1)

    pub answers_fault : (f : Fault) → Does k t.own m s.now.line (statement_of s.now.statement) (Err f) t'.own m' → t'.work ≡ u → Answered k t m (Err f) t' m'
    unfolding Answered Did reply
    answers_fault f d e =
        let h = d.did (ranks_of t.work.place) t.work.children (work_of t.work) (over (block_of s.now.rest) u) in (
          ap (reply m) (asked ∙ h.0),
          sym (moved t'.own (ranks_of t.work.place) t.work.children (work_of t.work) t'.work (ap (λ (x : Work). ranks_of x.place) e ∙ ap ranks_of stays.0) (ap (λ (x : Work). x.children) e ∙ stays.1) (ap work_of e ∙ head.0)) ∙ ap (λ (x : Record). task_of x t.work) h.1,
          h.2,
        )

    pub answers_passes : Does k t.own m s.now.line (statement_of s.now.statement) (Ok Passes) t'.own m' → work_of t'.work ≡ over (block_of s.now.rest) u → Stays u t'.work → Answered k t m (Ok Went) t' m'
    unfolding Answered Did
    answers_passes d e p =
        let b = over (block_of s.now.rest) u in
        let h = d.did (ranks_of t.work.place) t.work.children (work_of t.work) b in
        (ap (reply m) asked ∙ h.0 ∙ ap (λ (y : Task). stepped (goes y)) (moved t'.own (ranks_of t.work.place) t.work.children b t'.work (ap ranks_of (p.0 ∙ stays.0)) (p.1 ∙ stays.1) e), h.1 ∙ ap (stored k m) (sym asked))

    pub answers_amends : Does k t.own m s.now.line (statement_of s.now.statement) (Ok Amends) t'.own m' → work_of t'.work ≡ over (block_of s.now.rest) u → Stays u t'.work → Answered k t m (Ok Amended) t' m'
    unfolding Answered Did
    answers_amends d e p = answers_passes (record { did = d.did }) e p

    pub answers_enters : (x : Bor tree.Block) → Does k t.own m s.now.line (statement_of s.now.statement) (Ok (Enters x)) t'.own m' → work_of t'.work ≡ over_both (block_of x.now) (block_of s.now.rest) u → Stays u t'.work → Answered k t m (Ok Went) t' m'
    unfolding Answered Did
    answers_enters x d e p =
        let b = over (block_of s.now.rest) u in
        let h = d.did (ranks_of t.work.place) t.work.children (work_of t.work) b in
        (ap (reply m) asked ∙ h.0 ∙ ap (λ (y : Task). stepped (goes y)) (moved t'.own (ranks_of t.work.place) t.work.children (block_of x.now before b) t'.work (ap ranks_of (p.0 ∙ stays.0)) (p.1 ∙ stays.1) e), h.1 ∙ ap (stored k m) (sym asked))

    pub answers_repeats : (n : ℕ) (x : Bor tree.Block) → Does k t.own m s.now.line (statement_of s.now.statement) (Ok (Repeats n x)) t'.own m' → work_of t'.work ≡ after_rounds s.now.line n (block_of x.now) (over (block_of s.now.rest) u) → Stays u t'.work → Answered k t m (Ok Went) t' m'
    answers_repeats n x d e p =
        let b = over (block_of s.now.rest) u in
        let h = repeats_is s.now n x d in
        let here = sym head.0 ∙ at_work u s.now head.1 ∙ ap (λ (y : Statement). next s.now.line y b) h.0 in
        subst (Answered k t m (Ok Went) t') (sym h.2) (answers_round k m t t' s.now.line n (block_of x.now) b here e (stays_on t.work u t'.work stays p) h.1)

    pub answers_refused : (y : Bor Section) (x : Bor tree.Block) (e : Refused) → Does k t.own m s.now.line (statement_of s.now.statement) (Ok (Makes y x)) t'.own m' → ChildRecord (vec_items y.now.lines) t'.own (Err e) → t'.work ≡ u → Answered k t m (Err (record { kind = declaring; line = e.line })) t' m'
    unfolding Did
    answers_refused y x e d n w =
        let own : t'.own ≡ t.own = (d.did [] 0 end end).2 in
        let h = subst (λ (r : Record). ChildRecord (vec_items y.now.lines) r (Err e)) own n in
        answers_fault _ (record { did = λ p c w b. let i = d.did p c w b in (i.1 e h, i.2, i.3) }) w

    pub answers_makes : (y : Bor Section) (v : Record) (x : Bor tree.Block) (z : Fresh) → Does k t.own m s.now.line (statement_of s.now.statement) (Ok (Makes y x)) t'.own m' → ChildRecord (vec_items y.now.lines) t'.own (Ok v) → work_of t'.work ≡ over (block_of s.now.rest) u → t'.work.place ≡ u.place → t'.work.children ≡ suc u.children → (block_of z.body.now ≡ block_of x.now) × (ranks_of z.place ≡ ranks_of u.place ++ suc u.children ∷ []) → Answered k t m (Ok (Made v z)) t' m'
    unfolding Answered Did
    answers_makes y v x z d n e p c f =
        let b = over (block_of s.now.rest) u in
        let i = d.did (ranks_of t.work.place) t.work.children (work_of t.work) b in
        let h = i.0 v (subst (λ (r : Record). ChildRecord (vec_items y.now.lines) r (Ok v)) i.2 n) in
        let ranks = f.1 ∙ ap (λ (y : Place). ranks_of y ++ suc u.children ∷ []) stays.0 ∙ ap (λ (n : ℕ). ranks_of t.work.place ++ suc n ∷ []) stays.1 in (
          ap (reply m) asked ∙ h.0
              ∙ ap (λ (y : Task). stepped (makes (task_with v (ranks_of t.work.place ++ suc t.work.children ∷ []) 0 (block_of x.now)) y)) (moved t'.own (ranks_of t.work.place) (suc t.work.children) b t'.work (ap ranks_of (p ∙ stays.0)) (c ∙ ap suc stays.1) e)
              ∙ ap (λ (l : List ℕ). stepped (makes (task_with v l 0 (block_of x.now)) (model_of t'))) (sym ranks)
              ∙ ap (λ (y : Block). stepped (makes (task_with v (ranks_of z.place) 0 y) (model_of t'))) (sym f.0),
          h.1 ∙ ap (stored k m) (sym asked),
        )
