use Rattle.std.proofs.Common.{vec_items, filter, ap, ◌∙◌}
use Rattle.lines.specs.Stored.{queues_of}
use Rattle.lines.specs.Offers.{offers}
use Rattle.lines.proofs.Readies.{offered_is}
use Rattle.lines.proofs.Holds.{holds, told}
use Rattle.lines.proofs.line.Line.offer.Goals as goal

pub returns-clause-items : goal.returns-clause-items
returns-clause-items c = λ t tells.
    let s = c.args.self.now in
    c.fill.ensures.items ∙ ap (filter (offers s.states s.clear)) c.deref.ensures.value
    ∙ offered_is (queues_of (vec_items s.queues)) s.states (vec_items s.order) t s.clear s.made (holds s).queued s.once (told (holds s) t tells) s.unfinished s.known s.few s.flags
