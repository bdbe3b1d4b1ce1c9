-- A task that begins.
use Rattle.std.proofs.Common.{◌≡◌, ℕ, List, [], ap, ◌∙◌}
use Rattle.kinds.specs.Kinds.{Kind}
use Rattle.cards.specs.Trees.{block_of}
use Rattle.cards.specs.Code.{Block, Card}
use Rattle.working.specs.Tasks.{main}
use Rattle.working.specs.declared.record.Record.{Record}
use Rattle.working.specs.declared.work.Fresh.{Fresh}
use Rattle.working.specs.Works.{ranks_of}
use Rattle.working.specs.Records.{task_with, MainRecord}
use Rattle.working.specs.Steps.{fresh_task}

pub fresh_main : (k : Kind) (c : Card) (r : Record) (f : Fresh) → MainRecord k c r → block_of f.body.now ≡ c.body → ranks_of f.place ≡ [] → fresh_task r f ≡ main k c
fresh_main k c r f h b p = ap (λ (x : List ℕ). task_with r x 0 (block_of f.body.now)) p ∙ ap (λ (x : Block). task_with r [] 0 x) b ∙ h.task
