-- What each stage of a request's rows gives, by itself, past the stages before it: fields, limits, pair. A call is a choice of stages (`Rows`).
use Rattle.std.specs.Prelude.{◌≡◌}
use Rattle.refusals.specs.Rows.{Given}
use Rattle.matrix.specs.Matrix.{Bytes}
use Rattle.request.specs.Sections.{Bodies}
use Rattle.request.specs.Request.{request_in, fields_rows, limits_rows, pair_rows}
use Rattle.request.specs.Read.{judged, limit_of, pair_for}

pub record Stages (b : Bodies) : Type 0 where
  pub fields : Bytes b.matrix → Given (fields_rows b) (judged b).refusal
  pub limits : (judged b).refusal ≡ 0 → Given (limits_rows (request_in b).video (request_in b).sound) (limit_of (request_in b).video (request_in b).sound)
  pub pair : Bytes b.matrix → (judged b).refusal ≡ 0 → limit_of (request_in b).video (request_in b).sound ≡ 0
      → Given (pair_rows (request_in b)) (pair_for (request_in b)).refusal
