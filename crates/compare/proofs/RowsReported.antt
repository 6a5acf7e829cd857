-- The rows, read from what was written, report exactly the routes that are treated unlike.
use Rattle.std.proofs.Common.{◌≡◌, ℕ, ◌+◌, ◌<◌, ◌≤◌, Bool, true, not, ◌&&◌, ◌↔◌, List, [], ◌∷◌, length, Some, Option, sym, refl, ap, ◌∙◌, subst, inl, inr, arith}
use mathlib.Core.List.{Memᴰ}
use Rattle.std.specs.List.{slice_get}
use Rattle.std.proofs.lemmas.Option.{slice_get_within}
use Rattle.std.proofs.lemmas.Bool.{cases_order, cases_Bool, both_ways}
use Rattle.family.specs.Clauses.{action_at}
use Rattle.family.specs.Families.{FamilyLaws}
use Rattle.std.specs.List.{list_any}
use Rattle.family.specs.declared.clauses.Clause.{Clause}
use Rattle.family.specs.declared.edges.Edge.{Edge}
use Rattle.compare.specs.declared.rows.Row.{Row}
use Rattle.compare.specs.Cells.{region_at, holes_of, in_cell}
use Rattle.compare.specs.Regions.{region_list}
use Rattle.compare.specs.Reported.{Before, read_holes, decided_at, treated_alike, row_holds, Rising, IsHole, Unlike, Lies, Reported}
use Rattle.compare.specs.Rows.{place_of, alike_at, row_for, rows_found, rows_of, holes_of_rows}
use Rattle.compare.proofs.CellPoints.{cell_of, Least, least_found, cell_least, least_in_cell, least_once, least_decides}
use Rattle.compare.proofs.Closed.{Closed}
use Rattle.compare.proofs.FoundRows.{Standing, found_standing, found-listed, found_in_order}
use Rattle.compare.proofs.HoleTotals.{found-counted, found_total, holes-laid}
use Rattle.compare.proofs.HolesKnown.{holes_rising, holes-known}
use Rattle.compare.proofs.InOrder.{nth_in_order}
use Rattle.compare.proofs.LaidHoles.{laid_from, laid_at, laid-within, laid_again, holes-read}
use Rattle.compare.proofs.LaidOut.{started}
use Rattle.compare.proofs.Meetings.{whole_listed, left_listed, right_listed, list-once, list-closed, list-listed}
use Rattle.compare.proofs.Members.{all_member, nth_member, member_place}
use Rattle.compare.proofs.Occupied.{occupied_point, point_occupied}
use Rattle.compare.proofs.RowOrder.{before-apart}

no_place : (rows : List Row) → ((k : ℕ) (row : Row) → slice_get rows k ≡ Some row → ⊥) → length rows ≡ 0
no_place [] none = refl
no_place (row ∷ rows) none = absurd (none 0 row refl)

empty_place : (rows : List Row) → length rows ≡ 0 → (k : ℕ) (row : Row) → slice_get rows k ≡ Some row → ⊥
empty_place rows e k row is = let h = slice_get_within rows k row is in omega arith

module _ {R P : Type 0} {whole : R} {first : P} {axes : ℕ} {holds : R → P → Bool} {inside : R → R → Bool} {meet : R → R → Option R} {shifted : P → ℕ → Edge → R → P} (laws : FamilyLaws whole first axes holds inside meet shifted) (few : axes ≤ 4) {A : Type 0} (alike : A → A → Bool) (left : List (Clause R A)) (left-default : A) (right : List (Clause R A)) (right-default : A) (places : ℕ) (fits : length (region_list inside meet places whole left right) ≤ places) where
  abbrev xs : List R
  xs = region_list inside meet places whole left right

  abbrev at : ℕ → R
  at = region_at whole xs

  abbrev found : List Row
  found = rows_found whole first axes holds inside shifted alike xs left left-default right right-default

  abbrev rows : List Row
  rows = rows_of whole first axes holds inside shifted alike xs left left-default right right-default

  abbrev holes : List ℕ
  holes = holes_of_rows inside whole xs rows

  abbrev Stands : Row → Type 0
  Stands = Standing whole first axes holds inside shifted alike xs left left-default right right-default

  abbrev Apart : P → Type 0
  Apart = Unlike whole holds inside alike left left-default right right-default xs rows holes

  abbrev Here : ℕ → Row → P → Type 0
  Here = Lies whole holds inside alike left left-default right right-default xs rows holes

  closed : Closed laws xs
  closed = list-closed laws left right places fits

  -- a row that was written
  row_stands : (k : ℕ) (row : Row) → slice_get rows k ≡ Some row → Stands row
  row_stands k row is =
      let old = laid_from 0 found k row is in
      let s = all_member Stands old.0 found (found_standing whole first axes holds inside shifted alike xs left left-default right right-default) (nth_member found k old.0 old.2) in
      subst Stands old.3 (record { region_listed = s.region_listed; unlike = s.unlike; held = s.held; left_place = s.left_place; right_place = s.right_place })

  -- its holes are its region's
  row_holes : (k : ℕ) (row : Row) → slice_get rows k ≡ Some row → read_holes holes row ≡ holes_of inside whole xs (at row.region)
  row_holes k row is =
      ap (λ hs. read_holes hs row) (holes-laid inside whole xs 0 found) ∙ holes-read inside whole xs found k row (found-counted whole first axes holds inside shifted alike xs left left-default right right-default) is

  -- so that it holds the points of its region's cell
  row_cell : (k : ℕ) (row : Row) (p : P) → slice_get rows k ≡ Some row → row_holds holds whole xs holes row p ≡ in_cell holds at (cell_of laws xs row.region) p
  row_cell k row p is = ap (λ hs. holds (at row.region) p && not (list_any (λ n. holds (at n) p) hs)) (row_holes k row is)

  cell_lies : (k : ℕ) (row : Row) (p : P) → slice_get rows k ≡ Some row → in_cell holds at (cell_of laws xs row.region) p ≡ true → Here k row p
  cell_lies k row p is t = (is, row_cell k row p is ∙ t)

  row_least : (k : ℕ) (row : Row) (p : P) → Here k row p → Least laws xs row.region p
  row_least k row p lies = cell_least laws xs closed row.region p (row_stands k row lies.0).region_listed (sym (row_cell k row p lies.0) ∙ lies.1)

  -- the two places that decide a point are those of its cell, and it is treated as its cell is
  decided_left : (n : ℕ) (p : P) → Least laws xs n p → decided_at holds left p ≡ place_of inside left (at n)
  decided_left n p least = least_decides laws xs left (left_listed laws left right places) n p least

  decided_right : (n : ℕ) (p : P) → Least laws xs n p → decided_at holds right p ≡ place_of inside right (at n)
  decided_right n p least = least_decides laws xs right (right_listed laws left right places) n p least

  treated_same : (n : ℕ) (p : P) → Least laws xs n p → treated_alike holds alike left left-default right right-default p ≡ alike_at whole first axes holds inside shifted alike xs left left-default right right-default (at n)
  treated_same n p least =
      ap (λ i. alike (action_at left left-default i) (action_at right right-default (decided_at holds right p))) (decided_left n p least)
      ∙ ap (λ j. alike (action_at left left-default (place_of inside left (at n))) (action_at right right-default j)) (decided_right n p least)

  each_point : (p : P) → Apart p → (k : ℕ) × (row : Row) × Here k row p
  each_point p t =
      let n = least_found laws xs closed (whole_listed laws left right places) p in
      let cell = least_in_cell laws xs n.0 p n.1 in
      let unlike = sym (treated_same n.0 p n.1) ∙ t in
      let old = row_for whole first axes holds inside shifted alike xs left left-default right right-default n.0 (at n.0) in
      let k = member_place old found (found-listed whole first axes holds inside shifted alike xs left left-default right right-default n.0 n.1.0 unlike (point_occupied laws at (cell_of laws xs n.0) few p cell)) in
      let s = laid_at 0 found k.0 old k.1 in
      (k.0, started s.0 old, cell_lies k.0 (started s.0 old) p s.1 cell)

  only-unlike : (k : ℕ) (row : Row) (p : P) → Here k row p → Apart p × (row.left ≡ decided_at holds left p) × (row.right ≡ decided_at holds right p)
  only-unlike k row p lies =
      let least = row_least k row p lies in
      let s = row_stands k row lies.0 in
      (treated_same row.region p least ∙ s.unlike, s.left_place ∙ sym (decided_left row.region p least), s.right_place ∙ sym (decided_right row.region p least))

  some_point : (k : ℕ) (row : Row) → slice_get rows k ≡ Some row → (p : P) × Here k row p
  some_point k row is =
      let q = occupied_point laws at (cell_of laws xs row.region) (row_stands k row is).held in
      (q.0, cell_lies k row q.0 is q.1)

  in_order : (j k : ℕ) (a b : Row) → j < k → slice_get rows j ≡ Some a → slice_get rows k ≡ Some b → Before a b
  in_order j k a b h ej ek =
      let x = laid_from 0 found j a ej in
      let y = laid_from 0 found k b ek in
      let before = nth_in_order Before found j k x.0 y.0 (found_in_order whole first axes holds inside shifted alike xs left left-default right right-default) h x.2 y.2 in
      subst (λ r. Before r b) x.3 (subst (Before (started x.1 x.0)) y.3 before)

  one_row : (p : P) (j k : ℕ) (a b : Row) → Here j a p → Here k b p → j ≡ k
  one_row p j k a b la lb =
      let x = only-unlike j a p la in
      let y = only-unlike k b p lb in
      let lefts : a.left ≡ b.left = x.1 ∙ sym y.1 in
      let rights : a.right ≡ b.right = x.2 ∙ sym y.2 in
      let regions : a.region ≡ b.region = least_once laws xs (list-once laws left right places) a.region b.region p (row_least j a p la) (row_least k b p lb) in
      elim (cases_order j k) [
        | inl e ↦ e
        | inr apart ↦ elim apart [ inl h ↦ absurd (before-apart a b (in_order j k a b h la.0 lb.0) lefts rights regions) | inr h ↦ absurd (before-apart b a (in_order k j b a h lb.0 la.0) (sym lefts) (sym rights) (sym regions)) ]
      ]

  -- a row for a route treated unlike, and for none else
  none-unlike : (length rows ≡ 0) ↔ ((p : P) → treated_alike holds alike left left-default right right-default p ≡ true)
  none-unlike = (
    (λ e p. elim (cases_Bool (treated_alike holds alike left left-default right right-default p)) [ inl t ↦ t | inr f ↦ absurd (let s = each_point p f in empty_place rows e s.0 s.1 s.2.0) ]),
    (λ all. no_place rows (λ k row is. let q = some_point k row is in both_ways (treated_alike holds alike left left-default right right-default q.0) (only-unlike k row q.0 q.1).0 (all q.0))),
  )

  places_named : (i j : ℕ) → ((k : ℕ) × (row : Row) × (slice_get rows k ≡ Some row) × (row.left ≡ i) × (row.right ≡ j)) ↔ ((p : P) × Apart p × (decided_at holds left p ≡ i) × (decided_at holds right p ≡ j))
  places_named i j = (
    (λ s. let q = some_point s.0 s.1 s.2 in let u = only-unlike s.0 s.1 q.0 q.1 in (q.0, u.0, sym u.1 ∙ s.3, sym u.2 ∙ s.4)),
    (λ q. let s = each_point q.0 q.1 in let u = only-unlike s.0 s.1 q.0 s.2 in (s.0, s.1, s.2.0, u.1 ∙ q.2, u.2 ∙ q.3)),
  )

  row_written : (k : ℕ) (row : Row) → slice_get rows k ≡ Some row → (row.region < length xs) × (row.start + row.number ≤ length holes)
  row_written k row is =
      ((row_stands k row is).region_listed, omega (arith, laid-within 0 found k row is, found_total whole first axes holds inside shifted alike xs left left-default right right-default, ap length (holes-laid inside whole xs 0 found)))

  row_holed : (k : ℕ) (row : Row) → slice_get rows k ≡ Some row → Rising (read_holes holes row) × ((hole : ℕ) → Memᴰ hole (read_holes holes row) ↔ IsHole inside whole xs (at row.region) hole)
  row_holed k row is =
      let own = at row.region in
      subst (λ hs. Rising hs × ((hole : ℕ) → Memᴰ hole hs ↔ IsHole inside whole xs own hole)) (sym (row_holes k row is)) (holes_rising inside whole xs own, holes-known inside whole xs own)

  pub rows-reported : Reported whole holds inside alike left left-default right right-default xs rows holes
  rows-reported = record {
    each = each_point;
    once = one_row;
    some = some_point;
    only = only-unlike;
    ordered = in_order;
    none = none-unlike;
    pairs = places_named;
    listed = list-listed laws left right places fits;
    written = row_written;
    holed = row_holed;
    starts = laid_again 0 found;
    filled = refl;
  }
