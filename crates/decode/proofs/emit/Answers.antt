-- `decode::emit` meets its contract: the sections in turn are the bytes of the request. Assumes nothing.
use mathlib.Core.Path.{◌≡◌, ◌∙◌, sym}
use Prim.Native.Nat.{◌≤◌}
use lib.ListN.{length}
use borrow.Author.Rules.{rules}
use Rattle.request.specs.Sections.{longest}
use Rattle.request.specs.Bytes.{as_bytes}
use Rattle.decode.specs.Decode.{in_front}
use Rattle.decode.proofs.Emitted.{requested}
use Rattle.decode.proofs.emit.Goals as goal
use Rattle.decode.proofs.emit.Goals.{After-matrix_section}

all_laid : (c : After-matrix_section) → let q = c.args.q in let last = c.matrix_section.new.self in
    ((last.place ≡ length (as_bytes q)) × (last.place ≤ longest)) × (last.buffer.now ≡ in_front (as_bytes q) c.args.buffer.now)
all_laid c =
    let w = c.wiring_section.ensures in
    let v = c.section.ensures in
    let a = c.audio_section.ensures in
    let m = c.matrix_section.ensures in
    requested c.args.q c.args.buffer.now c.requires.long (search rules) c.to_body.ensures (w.place, w.stored) (v.place, v.stored) (a.place, a.stored) (m.place, m.stored)

pub returns-clause-value : goal.returns-clause-value
returns-clause-value c = (all_laid (goal.at.returns-clause-value c).After-matrix_section).0

pub returns-clause-buffer_after : goal.returns-clause-buffer_after
returns-clause-buffer_after c =
    let same = c.matrix_section.ensures.same_buffer ∙ c.audio_section.ensures.same_buffer ∙ c.section.ensures.same_buffer ∙ c.wiring_section.ensures.same_buffer in
    let named = sym same in
    search rules ∙ (all_laid (goal.at.returns-clause-buffer_after c).After-matrix_section).1
