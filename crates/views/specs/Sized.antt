-- The lengths of a state's slices, and of those that the host lends: document 01, "Refusal numbers", row 7.
use Rattle.std.specs.Prelude.{◌≡◌, length}
use Rattle.views.specs.Entry.{Lent}

-- the mark is one byte
pub record LentSized (l : Lent) : Type 0 where
  pub image : length l.image ≡ 256
  pub packet : length l.packet ≡ 32
  pub coefficients : length l.coefficients ≡ 24
  pub mark : length l.mark ≡ 1
