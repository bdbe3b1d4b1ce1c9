use Rattle.std.proofs.Common.{◌≡◌, drop}
use Rattle.working.specs.Requests.{amended}
use Rattle.working.proofs.declarations.amend.Given as goal

abbrev pub invariant-loop-x : goal.invariant-loop-x
invariant-loop-x l = amended l.pointers l.ds (drop l.x-index l.x-items) ≡ amended l.pointers l.initial.ds l.x-items
