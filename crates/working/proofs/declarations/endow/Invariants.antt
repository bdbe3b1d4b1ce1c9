use Rattle.std.proofs.Common.{◌≡◌, drop}
use Rattle.working.specs.Requests.{endowed}
use Rattle.working.proofs.declarations.endow.Given as goal

abbrev pub invariant-loop-x : goal.invariant-loop-x
invariant-loop-x l = endowed l.pointers l.maker l.ds (drop l.x-index l.x-items) ≡ endowed l.pointers l.maker l.initial.ds l.x-items
