-- The printed text of a comparison: the number of rows, then a line for each row.
use Rattle.std.specs.Prelude.{ℕ, cond, List, ◌++◌, length, take, drop, codes, decimal, ◌==◌}
use Rattle.std.specs.List.{flat_map}
use Rattle.supplied.specs.declared.ranges.PrefixRange.{PrefixRange}
use Rattle.compare.specs.declared.rows.Row.{Row}
use Rattle.listing.specs.Regions.{numbered_text}

-- a deciding place among a filter's clauses: the place behind them is the default
abbrev pub place_text : ℕ → ℕ → List ℕ
place_text clauses place = cond (place == clauses) (codes "d") (decimal place)

abbrev pub hole_text : List PrefixRange → ℕ → List ℕ
hole_text regions number = codes " - " ++ numbered_text regions number

abbrev pub holes_text : List PrefixRange → List ℕ → List ℕ
holes_text regions numbers = flat_map (hole_text regions) numbers

-- the region numbers of a row's holes
abbrev pub holes_of : List ℕ → Row → List ℕ
holes_of holes row = take row.number (drop row.start holes)

-- left place, right place, region and holes; lefts and rights are the numbers of clauses on the two sides
abbrev pub row_text : List PrefixRange → List ℕ → ℕ → ℕ → Row → List ℕ
row_text regions holes lefts rights row =
    place_text lefts row.left ++ codes " " ++ place_text rights row.right ++ codes " "
    ++ numbered_text regions row.region ++ holes_text regions (holes_of holes row) ++ codes "\n"

unfoldable pub listing : List PrefixRange → List Row → List ℕ → ℕ → ℕ → List ℕ
listing regions rows holes lefts rights =
    codes "rows " ++ decimal (length rows) ++ codes "\n" ++ flat_map (row_text regions holes lefts rights) rows
