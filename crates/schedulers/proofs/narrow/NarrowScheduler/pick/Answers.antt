use Rattle.std.proofs.Common.{ℕ, take, refl, ap, ◌∙◌}
use Rattle.std.proofs.lemmas.List.{take_min}
use Rattle.schedulers.specs.Fronts.{picked_front}
use Rattle.schedulers.proofs.narrow.NarrowScheduler.pick.Goals as goal

pub returns : goal.returns
returns g c =
    let s = c.args.self.now in
    let xs = c.args.offer.now in
    let front = ap (λ (n : ℕ). take n xs) c.min.ensures ∙ take_min s.width xs in
    record {
      answer = (rw front at c.pick.ensures.answer) ∙ picked_front (g.S.Scheduler.choice s.below) s.width xs s.some;
      state = (refl {a = s.width}, rw front at c.pick.ensures.state);
    }
