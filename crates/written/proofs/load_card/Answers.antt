use Rattle.written.proofs.Loads.{laws, answers}
use Rattle.written.proofs.load_card.Goals as goal

pub returns : goal.returns
returns c = record {
  loads = c.load.ensures;
  written = answers c.args.text.now c.load.result c.args.slot.now c.load.new.self c.load.ensures;
  laws = laws;
}
