-- What a list of rows says at an address is what the row there says. Assumes nothing.
use Rattle.std.proofs.Common.{◌≡◌, ℕ, List, get_or}
use Rattle.std.proofs.Math.ListN.{get_or-map}
use Rattle.ledger.specs.declared.row.Row.{Row}
use Rattle.ledger.specs.Rows.{blank_row, main_at, handler_at, spans_at, need_at, spans_of}

module _ (rows : List Row) (a : ℕ) where
  pub main_at_lem : main_at rows a ≡ (get_or rows a blank_row).main
  main_at_lem = get_or-map (λ row. row.main) rows a blank_row

  pub handler_at_lem : handler_at rows a ≡ (get_or rows a blank_row).handler
  handler_at_lem = get_or-map (λ row. row.handler) rows a blank_row

  pub spans_at_lem : spans_at rows a ≡ spans_of (get_or rows a blank_row)
  spans_at_lem = get_or-map spans_of rows a blank_row

  pub need_at_lem : need_at rows a ≡ (get_or rows a blank_row).need
  need_at_lem = get_or-map (λ row. row.need) rows a blank_row
