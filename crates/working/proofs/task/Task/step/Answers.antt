use Rattle.std.proofs.Common.{refl}
use Rattle.std.proofs.lemmas.Result.{err_from_is_err_and}
use Rattle.cards.specs.Trees.{block_of}
use Rattle.working.proofs.Steps.{fits_rest, fits_in, few_rest, few_in, few_task, few_rounds, fits_rounds, repeats_is, answers_finished, answers_rounds, answers_fault, answers_passes, answers_amends, answers_enters, answers_repeats, answers_refused, answers_makes}
use Rattle.working.proofs.task.Task.step.Goals as goal

pub pass-requires : goal.pass-requires
pass-requires g c =
    let u = c.head.new.self in
    let s = c.in-Next.step.now in
    let at = c.in-Next.ensures.heads.1 in
    record { fits = fits_rest u s at; few = few_rest u s at }

pub pass-requires-in-Amends : goal.pass-requires-in-Amends
pass-requires-in-Amends g c =
    let u = c.head.new.self in
    let s = c.in-Next.step.now in
    let at = c.in-Next.ensures.heads.1 in
    record { fits = fits_rest u s at; few = few_rest u s at }

pub enter-requires : goal.enter-requires
enter-requires g c =
    let u = c.head.new.self in
    let s = c.in-Next.step.now in
    let at = c.in-Next.ensures.heads.1 in
    let h = rw c.in-Enters.is at c.in_ok-effect-in-Next.ensures.inside in
    record { arm = fits_in u s at _ h.0; rest = fits_rest u s at; few = few_in u s at (block_of c.in-Enters.arm.now) h.1 }

pub round-requires-in-Repeats : goal.round-requires-in-Repeats
round-requires-in-Repeats g c =
    let u = c.head.new.self in
    let s = c.in-Next.step.now in
    let at = c.in-Next.ensures.heads.1 in
    let n = c.in-Repeats.left in
    let x = block_of c.in-Repeats.body.now in
    let e = (repeats_is s n c.in-Repeats.body (rw c.in-Repeats.is at c.in_ok-effect-in-Next.ensures.does)).0 in
    record { fits = fits_rounds u s at n x e; few = few_rounds u s at n x e }

pub spawn-fresh-requires : goal.spawn-fresh-requires
spawn-fresh-requires g c =
    let u = c.head.new.self in
    let s = c.in-Next.step.now in
    let at = c.in-Next.ensures.heads.1 in
    let h = rw c.in-Makes.is at c.in_ok-effect-in-Next.ensures.inside in
    record { body = fits_in u s at _ h.0; rest = fits_rest u s at; few = few_task u s at (block_of c.in-Makes.body.now) h.1 }

pub returns-in-Nothing-clause-answer : goal.returns-in-Nothing-clause-answer
returns-in-Nothing-clause-answer g c = answers_finished _ _ _ _ c.in-Nothing.ensures.heads c.in-Nothing.ensures.stays refl

pub returns-in-Round-clause-answer : goal.returns-in-Round-clause-answer
returns-in-Round-clause-answer g c =
    let h = c.in-Round.ensures in
    answers_rounds _ _ _ _ c.head.new.self h.stays c.in-Round.rounds h.heads c.round.ensures.work c.round.ensures.stays refl

pub returns-in_err-effect-in-Next-clause-answer : goal.returns-in_err-effect-in-Next-clause-answer
returns-in_err-effect-in-Next-clause-answer g c =
    let h = c.in-Next.ensures in
    let p = err_from_is_err_and c.from_residual.result c.from_residual.ensures.1 in
    rw (p.1, p.2) (answers_fault _ _ _ _ c.head.new.self h.stays _ c.in-Next.step h.heads _ c.in_err-effect-in-Next.ensures.does refl)

pub returns-in-Passes-clause-answer : goal.returns-in-Passes-clause-answer
returns-in-Passes-clause-answer g c =
    let h = c.in-Next.ensures in
    answers_passes _ _ _ _ c.head.new.self h.stays _ c.in-Next.step h.heads (rw c.in-Passes.is at c.in_ok-effect-in-Next.ensures.does) c.pass.ensures.work c.pass.ensures.stays

pub returns-in-Amends-clause-answer : goal.returns-in-Amends-clause-answer
returns-in-Amends-clause-answer g c =
    let h = c.in-Next.ensures in
    let e = c.pass-in-Amends.ensures in
    answers_amends _ _ _ _ c.head.new.self h.stays _ c.in-Next.step h.heads (rw c.in-Amends.is at c.in_ok-effect-in-Next.ensures.does) e.work e.stays

pub returns-in-Enters-clause-answer : goal.returns-in-Enters-clause-answer
returns-in-Enters-clause-answer g c =
    let h = c.in-Next.ensures in
    answers_enters _ _ _ _ c.head.new.self h.stays _ c.in-Next.step h.heads c.in-Enters.arm (rw c.in-Enters.is at c.in_ok-effect-in-Next.ensures.does) c.enter.ensures.work c.enter.ensures.stays

pub returns-in-Repeats-clause-answer : goal.returns-in-Repeats-clause-answer
returns-in-Repeats-clause-answer g c =
    let h = c.in-Next.ensures in
    let e = c.round-in-Repeats.ensures in
    answers_repeats _ _ _ _ c.head.new.self h.stays _ c.in-Next.step h.heads c.in-Repeats.left c.in-Repeats.body (rw c.in-Repeats.is at c.in_ok-effect-in-Next.ensures.does) e.work e.stays

pub returns-in_err-child-in-Makes-clause-answer : goal.returns-in_err-child-in-Makes-clause-answer
returns-in_err-child-in-Makes-clause-answer g c =
    let h = c.in-Next.ensures in
    let p = err_from_is_err_and c.from_residual-in_err-child-in-Makes.result c.from_residual-in_err-child-in-Makes.ensures.1 in
    rw (p.1, p.2) (answers_refused _ _ _ _ c.head.new.self h.stays _ c.in-Next.step h.heads c.in-Makes.section c.in-Makes.body _ (rw c.in-Makes.is at c.in_ok-effect-in-Next.ensures.does) c.in_err-child-in-Makes.ensures refl)

pub returns-in_ok-child-in-Makes-clause-answer : goal.returns-in_ok-child-in-Makes-clause-answer
returns-in_ok-child-in-Makes-clause-answer g c =
    let h = c.in-Next.ensures in
    let e = c.spawn-fresh.ensures in
    answers_makes _ _ _ _ c.head.new.self h.stays _ c.in-Next.step h.heads c.in-Makes.section c.in_ok-child-in-Makes.child c.in-Makes.body c.spawn-fresh.result (rw c.in-Makes.is at c.in_ok-effect-in-Next.ensures.does) c.in_ok-child-in-Makes.ensures e.work e.place e.children e.fresh
