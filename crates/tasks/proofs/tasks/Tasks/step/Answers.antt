use Rattle.std.proofs.Common.{sym, refl, ap, ◌∙◌, arith}
use Rattle.tasks.specs.Rooms.{to_make}
use Rattle.tasks.proofs.Numbered.{length_tasks}
use Rattle.tasks.proofs.Rooms.{to_make_set, step_makes}
use Rattle.tasks.proofs.Arms.{came, task, faults, went, amended, finished, made}
use Rattle.tasks.proofs.tasks.Tasks.step.Goals as goal

pub returns-then-i-len : goal.returns-then-i-len
returns-then-i-len g c = (omega (arith, length_tasks c.args.self.now, c.len.ensures, c.if-i-len.true), refl)

pub add-requires : goal.add-requires
add-requires g c =
    let s = c.args.self.now in
    let h = came c.advance.ensures c.in-Ok.is c.in-Made.is in
    record {
      room = omega (arith, s.few, h.count, ap to_make h.tasks, to_make_set s.tasks.items c.args.n h.before h.after h.found, step_makes _ h.before h.after _ _ _ h.answer);
      sized = h.sized ∙ sym h.objects;
    }

pub returns-in-Err : goal.returns-in-Err
returns-in-Err g c = let h = c.in-Err.ensures in (task h, faults _ h)

pub returns-in-Went : goal.returns-in-Went
returns-in-Went g c = let h = came c.advance.ensures c.in-Ok.is c.in-Went.is in (task h, went h)

pub returns-in-Amended : goal.returns-in-Amended
returns-in-Amended g c = let h = came c.advance.ensures c.in-Ok.is c.in-Amended.is in (task h, amended h)

pub returns-in-Finished : goal.returns-in-Finished
returns-in-Finished g c = let h = came c.advance.ensures c.in-Ok.is c.in-Finished.is in (task h, finished h)

pub returns-in-Made : goal.returns-in-Made
returns-in-Made g c =
    let h = came c.advance.ensures c.in-Ok.is c.in-Made.is in
    let a = c.add.ensures in
    (task h, made c.in-Made.child c.in-Made.fresh c.add.new.self c.add.result h a.number a.words a.tasks)
