-- `pipe::Open::join` meets its contract: the bytes so far, and the part behind them. Assumes nothing.
use Rattle.pipe.proofs.Joined.{joined}
use Rattle.pipe.proofs.Open.join.Goals as goal

pub returns : goal.returns
returns c =
    joined c.args.self.now.bytes.now c.args.part.now c.args.input.now c.copy.new.out c.copy-2.new.out c.min.result c.told-input c.args.self.now.within
    c.copy.ensures
    c.copy-2.ensures
    c.min.ensures
