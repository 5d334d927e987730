-- How many bytes a frame has at the least, and the frames behind the first.
use Rattle.std.proofs.Common.{◌≡◌, ◌≢◌, ℕ, zero, suc, ◌+◌, ◌-◌, ◌*◌, ◌≤◌, ◌<◌, Bool, true, false, cond, ◌&&◌, ◌==◌, List, [], ◌∷◌, length, take, drop, Option, Some, None, Result, Ok, Err, nat_le, nat_lt, refl, arith, sym, ◌∙◌, ap, subst}
use Rattle.std.specs.Prelude.{position, codes}
use Rattle.std.specs.List.{prefix_len, suffix_len, list_all}
use Rattle.std.specs.Option.{option_map_or}
use Rattle.std.specs.Str.{str_eq_ignore_ascii_case, str_to_ascii_lowercase}
use Rattle.std.specs.Str.Parse.{digits_value}
use Rattle.std.specs.Char.{is_ascii_digit, to_ascii_lowercase}
use Rattle.std.proofs.lemmas.Slice.Eq.{bytes_eq-Decides}
use Rattle.std.proofs.lemmas.List.{length-map, length-take, length-take-le, length-drop}
use Rattle.std.proofs.lemmas.List.Quantifiers.{position-Some}
use Rattle.lsp_framing.specs.declared.FrameKind.{FrameKind}
use Rattle.lsp_framing.specs.declared.FrameKind.TheVariants.{BadLength, BadField, HeaderLong}
use Rattle.lsp_framing.specs.Lines.{Header, Ended, Fault, Unended, header, header_from, lines, with_number, with_length, with_field, with_line, is_number, is_name, is_unbroken, is_blank, trimmed, or_fault, longest_header}
use Rattle.lsp_framing.specs.Frames.{Front, Whole, Faulty, Unfinished, front, front_by, Open, Bad, parted, after, shifted, frames_by, frames_from, frames}
use Rattle.lsp_framing.proofs.Laws.{front_within, FrontWithin}

-- a line that states a length has sixteen bytes at the least: the field's name, the `:` and a digit
module _ (n : ℕ) where
  by_number : (value : List ℕ) → with_length None value ≡ Ok (Some n) → 0 < length value
  unfolding with_length is_number
  by_number value e =
      elim value as (λ (v : List ℕ). cond (nat_lt 0 (length v) && list_all is_ascii_digit v) (with_number None (digits_value 10 v)) (Err BadLength) ≡ Ok (Some n) → 0 < length v) [
        | [] ↦ λ h. absurd (cc h)
        | b ∷ bs ↦ λ h. omega arith
      ] e

  trimmed_shorter : (text : List ℕ) → length (trimmed text) ≤ length text
  unfolding trimmed
  trimmed_shorter text =
      let behind = drop (prefix_len is_blank text) text in
      omega (arith, length-take (length behind - suffix_len is_blank behind) behind, length-drop (prefix_len is_blank text) text)

  by_case : (name : List ℕ) → str_eq_ignore_ascii_case name (codes "content-length") ≡ true → length name ≡ 14
  by_case name e =
      let same = (bytes_eq-Decides (str_to_ascii_lowercase name) (str_to_ascii_lowercase (codes "content-length"))).0 e in
      sym (length-map name to_ascii_lowercase) ∙ ap length same

  by_field : (name value : List ℕ) → with_field None name value ≡ Ok (Some n) → (length name ≡ 14) × (0 < length value)
  unfolding with_field
  by_field name value e =
      elim (is_name name && is_unbroken value)
      as (λ (t : Bool). cond t (cond (str_eq_ignore_ascii_case name (codes "content-length")) (with_length None (trimmed value)) (Ok None)) (Err BadField) ≡ Ok (Some n)
      → (length name ≡ 14) × (0 < length value)) [
        | true ↦ by_name (str_eq_ignore_ascii_case name (codes "content-length")) refl
        | false ↦ λ h. absurd (cc h)
      ] e where
        by_name : (t : Bool) → str_eq_ignore_ascii_case name (codes "content-length") ≡ t
            → cond t (with_length None (trimmed value)) (Ok None) ≡ Ok (Some n) → (length name ≡ 14) × (0 < length value)
        by_name true s h = (by_case name s, omega (arith, by_number (trimmed value) h, trimmed_shorter value))
        by_name false s h = absurd (cc h)

  by_line : (line : List ℕ) → with_line None line ≡ Ok (Some n) → 16 ≤ length line
  unfolding with_line
  by_line line e = by_colon (position (λ b. b == 58) line) refl e where
    by_colon : (o : Option ℕ) → position (λ b. b == 58) line ≡ o
        → option_map_or (λ colon. with_field None (take colon line) (drop (colon + 1) line)) o (Err BadField) ≡ Ok (Some n) → 16 ≤ length line
    by_colon None p h = absurd (cc h)
    by_colon (Some colon) p h =
        let f = by_field (take colon line) (drop (colon + 1) line) h in
        let within = (position-Some (λ b. b == 58) line colon 0 p).0 in
        omega (arith, f.0, f.1, within, length-take-le colon line (omega (arith, within)), length-drop (colon + 1) line)

-- the bytes that a header part still has, at the least
abbrev least : Option ℕ → ℕ
least None = 20
least (Some n) = 2

header_size : (texts : List (List ℕ)) (stated : Option ℕ) (place size len : ℕ) → header_from stated place texts ≡ Ended size len → place + least stated ≤ size
header_size [] stated place size len e = absurd (cc e)
header_size ([] ∷ texts) None place size len e = absurd (cc e)
header_size ([] ∷ texts) (Some n) place size len e = let same : place + 2 ≡ size = cc in omega (arith, same)
header_size ((b ∷ bs) ∷ texts) stated place size len e =
    by_says stated (with_line stated (b ∷ bs)) refl (λ next p. header_size texts next p size len) e where
      by_says : (stated : Option ℕ) (said : Result (Option ℕ) FrameKind) → with_line stated (b ∷ bs) ≡ said
          → ((next : Option ℕ) (p : ℕ) → header_from next p texts ≡ Ended size len → p + least next ≤ size)
          → or_fault said place (λ next. header_from next (place + length (b ∷ bs) + 2) texts) ≡ Ended size len → place + least stated ≤ size
      by_says stated (Err kind) says again h = absurd (cc h)
      by_says None (Ok None) says again h = omega (arith, again None (place + length (b ∷ bs) + 2) h)
      by_says None (Ok (Some m)) says again h = omega (arith, again (Some m) (place + length (b ∷ bs) + 2) h, by_line m (b ∷ bs) says)
      by_says (Some n) (Ok None) says again h = omega (arith, again None (place + length (b ∷ bs) + 2) h)
      by_says (Some n) (Ok (Some m)) says again h = omega (arith, again (Some m) (place + length (b ∷ bs) + 2) h)

header_is_long : (bytes : List ℕ) (size len : ℕ) → header bytes ≡ Ended size len → 20 ≤ size
unfolding header
header_is_long bytes size len e = omega (arith, header_size (lines (take longest_header bytes)) None 0 size len e)

-- a frame has twenty bytes and its content
abbrev IsLong : Front → Type 0
IsLong (Whole size content) = 20 ≤ size
IsLong (Faulty at kind) = Unit {0}
IsLong Unfinished = Unit {0}

front_by_long : (h : Header) (bytes : List ℕ) → ((size len : ℕ) → h ≡ Ended size len → 20 ≤ size) → IsLong (front_by h bytes)
front_by_long (Ended size len) bytes long =
    elim (nat_le (size + len) (length bytes)) as (λ (t : Bool). IsLong (cond t (Whole size (take len (drop size bytes))) Unfinished)) [ true ↦ long size len refl | false ↦ tt ]
front_by_long (Fault at kind) bytes long = tt
front_by_long Unended bytes long =
    elim (nat_le longest_header (length bytes)) as (λ (t : Bool). IsLong (cond t (Faulty 0 HeaderLong) Unfinished)) [ true ↦ tt | false ↦ tt ]

front_long : (bytes : List ℕ) → IsLong (front bytes)
unfolding front
front_long bytes = front_by_long (header bytes) bytes (λ size len e. header_is_long bytes size len e)

few_from : (bytes : List ℕ) (place skip : ℕ) → skip ≤ length bytes → length (frames_from place skip bytes).contents * 20 + skip ≤ length bytes
few_from [] place skip h = omega arith
few_from (x ∷ bytes) place (suc skip) h = omega (arith, few_from bytes (place + 1) skip (omega arith))
few_from (x ∷ bytes) place zero h =
    by_front (front (x ∷ bytes)) (front_long (x ∷ bytes)) (front_within (x ∷ bytes)) (λ n h. few_from bytes (place + 1) n h) where
      by_front : (f : Front) → IsLong f → FrontWithin f (length (x ∷ bytes))
          → ((n : ℕ) → n ≤ length bytes → length (frames_from (place + 1) n bytes).contents * 20 + n ≤ length bytes)
          → length (frames_by f place (λ s. frames_from (place + 1) s bytes)).contents * 20 + 0 ≤ length (x ∷ bytes)
      by_front Unfinished long within again = omega arith
      by_front (Faulty at kind) long within again = omega arith
      by_front (Whole size content) long within again =
          let n = size + length content - 1 in
          let more = again n (omega (arith, long, within)) in
          omega (arith, long, more)

pub contents_few : (bytes : List ℕ) → length (frames bytes).contents * 20 ≤ length bytes
unfolding frames
contents_few bytes = omega (arith, few_from bytes 0 0 (omega arith))

-- where the bytes stand further on, so do the places
shifts : (bytes : List ℕ) (by place skip : ℕ) → frames_from (by + place) skip bytes ≡ shifted by (frames_from place skip bytes)
shifts [] by place skip = refl
shifts (x ∷ bytes) by place (suc skip) =
    let e : (by + place) + 1 ≡ by + (place + 1) = omega arith in
    ap (λ n. frames_from n skip bytes) e ∙ shifts bytes by (place + 1) skip
shifts (x ∷ bytes) by place zero = by_front (front (x ∷ bytes)) (λ n. shifts bytes by (place + 1) n) where
  by_front : (f : Front) → ((n : ℕ) → frames_from (by + (place + 1)) n bytes ≡ shifted by (frames_from (place + 1) n bytes))
      → frames_by f (by + place) (λ s. frames_from ((by + place) + 1) s bytes) ≡ shifted by (frames_by f place (λ s. frames_from (place + 1) s bytes))
  by_front Unfinished again = refl
  by_front (Faulty at kind) again = let e : (by + place) + at ≡ by + (place + at) = omega arith in ap (λ n. parted [] (Bad n kind)) e
  by_front (Whole size content) again =
      let n = size + length content - 1 in
      let e : (by + place) + 1 ≡ by + (place + 1) = omega arith in
      ap (λ m. after (content ∷ []) (frames_from m n bytes)) e ∙ ap (λ t. after (content ∷ []) t) (again n)

-- behind bytes of a frame before
skips : (bytes : List ℕ) (place skip : ℕ) → skip ≤ length bytes → frames_from place skip bytes ≡ frames_from (place + skip) 0 (drop skip bytes)
skips bytes place zero h = let e : place + 0 ≡ place = omega arith in ap (λ n. frames_from n 0 bytes) (sym e)
skips [] place (suc skip) h = absurd (omega arith)
skips (x ∷ bytes) place (suc skip) h =
    let e : (place + 1) + skip ≡ place + suc skip = omega arith in
    skips bytes (place + 1) skip (omega arith) ∙ ap (λ n. frames_from n 0 (drop skip bytes)) e

pub frame_in_front : (bytes : List ℕ) (size : ℕ) (content : List ℕ) → front bytes ≡ Whole size content
    → frames bytes ≡ after (content ∷ []) (shifted (size + length content) (frames (drop (size + length content) bytes)))
unfolding frames
frame_in_front bytes size content e = of_front bytes e (subst IsLong e (front_long bytes)) (subst (λ f. FrontWithin f (length bytes)) e (front_within bytes)) where
  of_front : (bytes : List ℕ) → front bytes ≡ Whole size content → 20 ≤ size → size + length content ≤ length bytes
      → frames_from 0 0 bytes ≡ after (content ∷ []) (shifted (size + length content) (frames_from 0 0 (drop (size + length content) bytes)))
  of_front [] e long within = absurd (omega (arith, long, within))
  of_front (x ∷ bytes) e long within =
      let n = size + length content - 1 in
      let whole : suc n ≡ size + length content = omega (arith, long) in
      let place : 1 + n ≡ (size + length content) + 0 = omega (arith, long) in
      ap (λ f. frames_by f 0 (λ s. frames_from 1 s bytes)) e
      ∙ ap (λ t. after (content ∷ []) t)
      (skips bytes 1 n (omega (arith, within, long))
      ∙ ap (λ m. frames_from m 0 (drop n bytes)) place
      ∙ shifts (drop n bytes) (size + length content) 0 0
      ∙ ap (λ m. shifted (size + length content) (frames_from 0 0 (drop m (x ∷ bytes)))) whole)

pub fault_in_front : (bytes : List ℕ) (at : ℕ) (kind : FrameKind) → front bytes ≡ Faulty at kind → bytes ≢ [] → frames bytes ≡ parted [] (Bad at kind)
unfolding frames
fault_in_front [] at kind e some = absurd (some refl)
fault_in_front (x ∷ bytes) at kind e some =
    let place : 0 + at ≡ at = omega arith in
    ap (λ f. frames_by f 0 (λ s. frames_from 1 s bytes)) e ∙ ap (λ n. parted [] (Bad n kind)) place

pub open_in_front : (bytes : List ℕ) → front bytes ≡ Unfinished → bytes ≢ [] → frames bytes ≡ parted [] Open
unfolding frames
open_in_front [] e some = absurd (some refl)
open_in_front (x ∷ bytes) e some = ap (λ f. frames_by f 0 (λ s. frames_from 1 s bytes)) e
