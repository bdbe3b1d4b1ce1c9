use Rattle.std.proofs.Common.{◌≡◌, [], replicate, vec_items, vec_len}
use Rattle.lines.specs.Stored.{queues_of}
use Rattle.lines.proofs.changes.empty_queues.Given as goal

abbrev pub invariant-loop : goal.invariant-loop
invariant-loop l = (vec_len l.queues ≡ l.counter) × (queues_of (vec_items l.queues) ≡ replicate l.counter [])
