-- The bytes that a record takes, from the fields of its layout.
use Rattle.std.proofs.Common.{◌≡◌, ℕ, zero, suc, ◌+◌, ◌*◌, true, eqb, List, [], ◌∷◌, length, get_or, Ok, Err, Result, sym, ap, ◌∙◌, zero-add, arith}
use Rattle.supplied.specs.declared.errors.MakeError.{MakeError}
use Rattle.fields.specs.Fields.{spelled, field_of, given_of}
use Rattle.fields.specs.Layouts.{LayoutOf, places_of, fields_of, numbers_of, made_of, record_of}
use Rattle.fields.specs.Reading.{Read, ◌>>=◌}
use Rattle.fields.specs.Sizes.{TookBytes}
use Rattle.fields.proofs.Inversion.{both_steps, passed, not_refused, never-read}
use Rattle.fields.proofs.Seen.{same_parts}

-- a reading that takes so many bytes
abbrev pub Takes : {X : Type 0} → ℕ → (List ℕ → Read X) → Type 0
Takes {X} width reading = (bytes : List ℕ) (x : X) (rest : List ℕ) → reading bytes ≡ Ok (x, rest) → length bytes ≡ width + length rest

spelled_takes : (width n : ℕ) → Takes width (spelled width n)
spelled_takes zero n bytes x rest same = omega (arith, ap length (same_parts same).1)
spelled_takes (suc width) n [] x rest same = absurd (never-read same)
spelled_takes (suc width) n (b ∷ bytes) x rest same = omega (arith, spelled_takes width (n * 256 + b) bytes x rest same)

pub field_takes : (width : ℕ) → Takes width (field_of width)
field_takes width = spelled_takes width 0

pub given_takes : (width absent : ℕ) → Takes width (given_of width absent)
given_takes width absent bytes x rest same =
    let read = both_steps (field_of width bytes) _ (x, rest) same in
    let other = not_refused (eqb read.0.0 absent) _ _ (x, rest) read.2 in
    field_takes width bytes read.0.0 read.0.1 read.1 ∙ ap (λ l. width + length l) (same_parts other.1).1

-- a reading that goes on to make something of what it read
pub then_made : {X Y : Type 0} (width : ℕ) (reading : List ℕ → Read X) (make : X → Y) → Takes width reading → Takes width (λ bytes. ◌>>=◌ (reading bytes) (λ p. Ok (make p.0, p.1)))
then_made width reading make takes bytes y rest same =
    let read = both_steps (reading bytes) _ (y, rest) same in
    takes bytes read.0.0 read.0.1 read.1 ∙ ap (λ l. width + length l) (same_parts read.2).1

abbrev pub widths : (ℕ → ℕ) → List ℕ → ℕ
widths width [] = 0
widths width (p ∷ places) = width p + widths width places

made-rest : {X : Type 0} (r : Result X MakeError) (bytes behind : List ℕ) (x : X) (rest : List ℕ) → made_of r bytes behind ≡ Ok (x, rest) → behind ≡ rest
made-rest (Ok y) bytes behind x rest same = (same_parts same).1
made-rest (Err cause) bytes behind x rest same = absurd (never-read same)

module _ {N X : Type 0} (layout : LayoutOf N X) (width size : ℕ → ℕ) (field : (n : N) (place : ℕ) → Takes (width place) (layout.taken n place)) (whole : (map : ℕ) → layout.defined map ≡ true → size map ≡ 1 + widths width (places_of (layout.field_bits map))) where
  fields-take : (places : List ℕ) (n : N) → Takes (widths width places) (fields_of layout.taken places n)
  fields-take [] n bytes x rest same = omega (arith, ap length (same_parts same).1)
  fields-take (p ∷ places) n bytes x rest same =
      let first = both_steps (layout.taken n p bytes) _ (x, rest) same in
      omega (arith, field n p bytes first.0.0 first.0.1 first.1, fields-take places first.0.0 first.0.1 x rest first.2)

  numbers-take : (bytes : List ℕ) (x : ℕ × N) (rest : List ℕ) → numbers_of layout bytes ≡ Ok (x, rest) → length bytes ≡ size (get_or bytes 0 0) + length rest
  numbers-take [] x rest same = absurd (never-read same)
  numbers-take (b ∷ body) x rest same =
      let known = passed (layout.defined (0 + b)) _ _ (x, rest) same in
      let places = places_of (layout.field_bits (0 + b)) in
      let read = both_steps (fields_of layout.taken places layout.absent body) _ (x, rest) known.1 in
      omega (arith, whole (0 + b) known.0, ap size (zero-add b), fields-take places layout.absent body read.0.0 read.0.1 read.1, ap length (same_parts read.2).1)

  record_takes : (bytes : List ℕ) (x : X) (rest : List ℕ) → record_of layout bytes ≡ Ok (x, rest) → length bytes ≡ size (get_or bytes 0 0) + length rest
  record_takes bytes x rest same =
      let read = both_steps (numbers_of layout bytes) _ (x, rest) same in
      let end = made-rest _ bytes read.0.1 x rest read.2 in
      numbers-take bytes read.0.0 read.0.1 read.1 ∙ ap (λ l. size (get_or bytes 0 0) + length l) end

  pub took_bytes : (bytes : List ℕ) (read : Read X) → read ≡ record_of layout bytes → TookBytes size bytes read
  took_bytes bytes (Ok p) is = record_takes bytes p.0 p.1 (sym is)
  took_bytes bytes (Err fault) is = tt
