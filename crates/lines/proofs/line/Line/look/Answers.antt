use Rattle.std.proofs.Common.{◌<◌, List, [], length, get_or, vec_items, sym, ap, ◌∙◌, arith}
use Rattle.std.proofs.lemmas.List.{get_or_past}
use Rattle.std.specs.List.{slice_get}
use Rattle.std.proofs.lemmas.Option.{slice_get_past}
use Rattle.runs.specs.declared.entry.Entry.{Entry}
use Rattle.lines.specs.declared.queue.Queue.{Queue}
use Rattle.lines.specs.Stored.{queues_of}
use Rattle.lines.proofs.Stores.{length_queues, getD_queues}
use Rattle.lines.proofs.Queued.{queue_stored}
use Rattle.lines.proofs.Looks.{entry_got}
use Rattle.lines.proofs.Holds.{holds, told}
use Rattle.lines.proofs.line.Line.look.Goals as goal

pub returns-in_err-queue : goal.returns-in_err-queue
returns-in_err-queue c = λ t tells.
    let s = c.args.self.now in
    let qs = queues_of (vec_items s.queues) in
    c.from_residual.ensures ∙ sym (slice_get_past {X = Entry} [] c.args.place (omega arith))
    ∙ ap (λ (es : List Entry). slice_get es c.args.place) (sym (get_or_past qs c.args.object [] (omega (arith, c.in_err-queue.ensures.lookup.3, ap length c.deref.ensures.value, length_queues (vec_items s.queues)))) ∙ sym (queue_stored qs s.states t (vec_items s.order) (holds s).queued (told (holds s) t tells) c.args.object))

pub returns : goal.returns
returns c = λ t tells.
    let s = c.args.self.now in
    let qs = queues_of (vec_items s.queues) in
    let q = c.in_ok-queue.queue.now in
    let h = c.in_ok-queue.ensures.lookup.3 in
    let lt : c.args.object < length (vec_items s.queues) = omega (arith, h.0, ap length c.deref.ensures.value) in
    c.copied.ensures ∙ entry_got c.deref-2.result.now c.args.place c.get-2.result c.get-2.ensures.lookup.3
    ∙ ap (λ (es : List Entry). slice_get es c.args.place) (c.deref-2.ensures.value ∙ sym (getD_queues (vec_items s.queues) c.args.object q lt (h.1 q ∙ ap (λ (l : List Queue). get_or l c.args.object q) c.deref.ensures.value)) ∙ sym (queue_stored qs s.states t (vec_items s.order) (holds s).queued (told (holds s) t tells) c.args.object))
