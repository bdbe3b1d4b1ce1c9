use Rattle.std.proofs.Common.{◌≡◌, ℕ, List, [], ◌∷◌, length, sym, ap, ◌∙◌, subst, arith, rules, Vec, vec_items, Result, Ok, Err, refl}
use Rattle.std.proofs.lemmas.List.{length-map, take_at}
use Rattle.std.specs.Result.{result_and}
use Rattle.std.specs.declared.alloc.Global.{Global}
use Rattle.kinds.specs.Kinds.{Kind}
use Rattle.cards.specs.Code.{Card}
use Rattle.cards.specs.Bounds.{step_bound}
use Rattle.cards.specs.Cards.{card_of}
use Rattle.working.specs.Tasks.{Task, starting_words}
use Rattle.working.specs.Serial.{Outcome, words, result, Serial, Serially}
use Rattle.working.specs.declared.record.Record.{Record}
use Rattle.working.specs.declared.serial.Worked.{Worked}
use Rattle.working.specs.declared.fault.TaskFault.{TaskFault}
use Rattle.working.specs.Steps.{model_of}
use Rattle.working.specs.Results.{outcome_of, result_of, WorkedSerially}
use Rattle.working.specs.Piles.{stop_of, ran_of}
use Rattle.working.proofs.Serials.{serially_agrees, serially_bounded}
use Rattle.working.proofs.Begins.{fresh_main}
use Rattle.working.proofs.serial.work_serially.Goals as goal

outcomes : (s : Result (Unit {0}) TaskFault) (v : Vec ℕ Global) (m : List ℕ) → vec_items v ≡ m → stop_of s m ≡ outcome_of (result_and s (Ok v))
outcomes (Ok u) v m e = ap words (sym e)
outcomes (Err f) v m e = refl

worked : (k : Kind) (c : Card) (w : Worked) → Serially k c (result_of w) → WorkedSerially k c w
worked k c w s =
    let b = serially_bounded k c (result_of w) s in
    record { value = (serially_agrees k c (result_of w)).1 s; related = s; steps = b.0; made = b.1 }

pub work_off-requires : goal.work_off-requires
unfolding starting_words
work_off-requires g c =
    let d = c.args.card.now in
    let m = c.deref_mut.ensures.value ∙ c.in_ok-store.ensures in
    let h = ap step_bound (c.begin-main.ensures.work ∙ c.main.ensures.body) in
    record {
      objects = omega (arith, ap length m, length-map d.words.items (g.K.ValueKind.kind c.args.kind.now).literal, c.main-own.ensures.objects, ap (λ (x : Record). x.objects) c.begin-main.ensures.own);
      steps = omega (arith, h, d.steps);
    }

pub returns : goal.returns
returns g c =
    let k : Kind = g.K.ValueKind.kind c.args.kind.now in
    let card = card_of c.args.card.now in
    let ran = c.in_ok-ran.ran in
    let last = c.work_off.new.store in
    let f = c.main.ensures in
    let m = c.deref_mut.ensures.value ∙ c.in_ok-store.ensures in
    let t = c.begin-main.ensures.task ∙ fresh_main k card c.main-own.result c.main.result c.main-own.ensures f.body f.place in
    let e : length last ≡ c.in_ok-store.store.len = search rules in
    let same : stop_of ran.stop last ≡ outcome_of c.and-outcome.result =
    outcomes ran.stop _ last (take_at last _ c.in_ok-store.store.len e) ∙ ap outcome_of (sym c.and-outcome.ensures) in
    let s = subst (λ (x : List ℕ). Serial k x (model_of c.begin-main.result ∷ []) 0 1 (ran_of ran last)) m c.in_ok-ran.ensures in
    let r = subst (λ (x : Task). Serial k (starting_words k card) (x ∷ []) 0 1 (ran_of ran last)) t s in
    worked k card _ (subst (λ (o : Outcome). Serially k card (result o ran.steps ran.made)) same r)
