-- `views::entry::Slices::leave` meets its contract. Assumes nothing.
use mathlib.Core.Path.{◌≡◌, refl, sym, ◌∙◌}
use lib.ListN.{length}
use Rattle.lists.proofs.Copied.{over_whole}
use Rattle.views.proofs.Lent.{byte_of, stored_alone}
use borrow.Author.Rules.{rules}
use Rattle.views.proofs.entry.Slices.leave.Goals as goal

pub returns : goal.returns
returns c = let l = c.args.self.now in
    -- the state's arrays have their lengths
    let s = c.args.s.now in
    let image : length s.image ≡ 256 = search rules in
    let packet : length s.packet ≡ 32 = search rules in
    let coefficients : length s.coefficients ≡ 24 = search rules in
    record {
      same_image = refl;
      same_packet = refl;
      same_coefficients = refl;
      same_mark = refl;
      bytes = rw (
        c.copy.ensures ∙ over_whole s.image l.image.now (image ∙ sym c.requires.image),
        c.copy-2.ensures ∙ over_whole s.packet l.packet.now (packet ∙ sym c.requires.packet),
        c.copy-3.ensures ∙ over_whole s.coefficients l.coefficients.now (coefficients ∙ sym c.requires.coefficients),
        stored_alone l.mark.now c.from.result c.requires.mark,
        c.from.ensures ∙ byte_of s.waiting,
      ) refl;
    }
