use Rattle.std.proofs.Common.{[], ◌∷◌, sym, refl, ap, ◌∙◌, subst, ⊎_elim, arith}
use Rattle.std.proofs.lemmas.List.{nil_from_length}
use Rattle.std.proofs.lemmas.Slice.{pushed}
use Rattle.working.specs.Requests.{goes, makes}
use Rattle.working.specs.Serial.{Serial, made_by, fault, result}
use Rattle.working.specs.declared.place.Place.{Place}
use Rattle.working.specs.declared.record.Record.{Record}
use Rattle.working.specs.declared.task.Task.{Task}
use Rattle.working.specs.Works.{ranks_of}
use Rattle.working.specs.Steps.{model_of, fresh_task}
use Rattle.working.proofs.Piles.{line_of, Advances, went, amended, finished, all_finished, faults, made, small_last, small_pop, Small, working_none, working_more}
use Rattle.working.proofs.pile.work_off.Given as given
use Rattle.working.proofs.pile.work_off.Goals as goal

pub loop-stepped-init : goal.loop-stepped-init
loop-stepped-init g c = working_none c.new-pile.ensures.items c.requires.objects c.requires.steps

pub returns-in-Err : goal.returns-in-Err
returns-in-Err g c =
    let l = c.loop-stepped in
    let k = g.K.ValueKind.kind c.args.kind.now in
    let f = c.in-Err.fault in
    let a = faults k l.store c.step.new.store l.task c.step.new.self l.pile.items f l.steps l.made c.in-Err.ensures.answer in
    subst (λ (p : Place). Serial k c.args.store.now (model_of c.args.main ∷ []) 0 1 (result (fault f.kind f.line (ranks_of p)) l.steps l.made)) (sym c.place-place.ensures) (l.invariant.carries _ a)

-- the task goes on
goes_on : (g : given.Over) (c : goal.In-Went g) → Advances (g.K.ValueKind.kind c.args.kind.now) c.loop-stepped.store (line_of c.loop-stepped.task c.loop-stepped.pile.items) c.step.new.store (line_of c.step.new.self c.loop-stepped.pile.items) (goes (model_of c.step.new.self))
goes_on g c = ⊎_elim (λ e. went _ _ _ _ _ _ (rw e at c.in-Ok.ensures.answer)) (λ e. amended _ _ _ _ _ _ (rw e at c.in-Ok.ensures.answer)) c.in-Went.is

pub loop-stepped-smaller-in-Went : goal.loop-stepped-smaller-in-Went
loop-stepped-smaller-in-Went g c = (goes_on g c).falls

pub loop-stepped-preserved-in-Went : goal.loop-stepped-preserved-in-Went
unfolding made_by
loop-stepped-preserved-in-Went g c =
    let i = c.loop-stepped.invariant in
    working_more i (goes_on g c) (omega arith) (omega (arith, i.objects, c.in-Ok.ensures.objects)) i.small

pub returns-in_default : goal.returns-in_default
returns-in_default g c =
    let l = c.loop-stepped in
    let e = nil_from_length l.pile.items (sym l.pile.ok.0 ∙ c.in_default.ensures.cases.0) in
    l.invariant.carries _ (all_finished _ _ _ _ _ _ e l.steps l.made (rw c.in-Finished.is at c.in-Ok.ensures.answer))

pub loop-stepped-smaller-in-Finished : goal.loop-stepped-smaller-in-Finished
loop-stepped-smaller-in-Finished g c = (finished _ _ _ _ _ c.loop-stepped.pile.items c.pop.new.self.items c.in-Some.maker c.in-Some.ensures.items (rw c.in-Finished.is at c.in-Ok.ensures.answer)).falls

pub loop-stepped-preserved-in-Finished : goal.loop-stepped-preserved-in-Finished
unfolding made_by
loop-stepped-preserved-in-Finished g c =
    let i = c.loop-stepped.invariant in
    let t = c.in-Some.maker in
    let ts = c.pop.new.self.items in
    let p = c.in-Some.ensures.items in
    let z = small_pop _ ts t (subst (Small _) p i.small) in
    working_more i (finished _ _ _ _ _ _ ts t p (rw c.in-Finished.is at c.in-Ok.ensures.answer)) (omega arith) z.1 z.0

-- the child goes on
child_advances : (g : given.Over) (c : goal.In_ok-push-in-Made g) → Advances (g.K.ValueKind.kind c.args.kind.now) c.loop-stepped.store (line_of c.loop-stepped.task c.loop-stepped.pile.items) c.step.new.store (line_of c.replace.new.dest c.push.new.self.items) (makes (fresh_task c.in-Made.own c.in-Made.fresh) (model_of c.step.new.self))
child_advances g c =
    let e = c.replace.ensures in
    made _ _ _ _ _ _ c.in-Made.own c.in-Made.fresh c.replace.new.dest c.replace.result c.push.new.self.items (rw c.in-Made.is at c.in-Ok.ensures.answer)
    (ap model_of e.after ∙ c.begin-child.ensures.task)
    (pushed (c.replace.result ∷ []) refl c.in_ok-push-in-Made.was c.push.ensures.items)
    e.value

pub loop-stepped-smaller : goal.loop-stepped-smaller
loop-stepped-smaller g c = (child_advances g c).falls

pub loop-stepped-preserved : goal.loop-stepped-preserved
unfolding made_by
loop-stepped-preserved g c =
    let i = c.loop-stepped.invariant in
    let o = c.in-Ok.ensures in
    let t = c.replace.result in
    let e = pushed (t ∷ []) refl c.in_ok-push-in-Made.was c.push.ensures.items in
    let child = ap (λ (x : Task). x.own.objects) c.replace.ensures.after ∙ ap (λ (x : Record). x.objects) c.begin-child.ensures.own ∙ rw c.in-Made.is at o.sized in
    let waits = ap (λ (x : Task). x.own.objects) c.replace.ensures.value ∙ o.objects in
    working_more i (child_advances g c) refl (omega (arith, i.objects, child)) (subst (Small _) (sym e) (small_last _ c.loop-stepped.pile.items t i.small (omega (arith, i.objects, waits))))
