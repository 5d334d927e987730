-- The frames of an input, from the definition alone: where a fault lies, and how long a content is.
use Rattle.std.proofs.Common.{◌≡◌, ℕ, zero, suc, ◌+◌, ◌-◌, ◌≤◌, Bool, true, false, cond, List, [], ◌∷◌, ◌++◌, length, take, drop, Option, Some, None, Result, Ok, Err, IfOk, IfSome, nat_le, nat_lt, ◌==◌, ◌&&◌, refl, arith, ap, subst, sym}
use Rattle.std.specs.Prelude.{slice_get, position, codes}
use Rattle.std.specs.List.{AllByRecursion}
use Rattle.std.specs.Option.{option_map_or}
use Rattle.std.specs.Str.{str_eq_ignore_ascii_case}
use Rattle.std.specs.Str.Parse.{digits_value}
use Rattle.std.proofs.lemmas.List.{length-append, length-take}
use Rattle.std.proofs.lemmas.Bool.Decides.{nat_tests}
use Rattle.lsp_framing.specs.declared.FrameKind.{FrameKind}
use Rattle.lsp_framing.specs.declared.FrameKind.TheVariants.{HeaderLong, NoLength, BadLength, BadField, ContentLong}
use Rattle.lsp_framing.specs.Lines.{Header, Ended, Fault, Unended, header, header_from, with_number, with_length, with_field, with_line, agrees, is_number, is_name, is_unbroken, trimmed, or_fault, longest_header, longest_content}
use Rattle.lsp_framing.specs.Scanned.{lines_met, lines_from, line_ended}
use Rattle.lsp_framing.proofs.Scanning.{header_scans}
use Rattle.lsp_framing.specs.Frames.{Front, Whole, Faulty, Unfinished, front, front_by, Bad, Parted, frames_by, frames_from, frames}
use Rattle.lsp_framing.proofs.Reading.{ended_length}

-- what bounds a header part
abbrev HeaderWithin : Header → ℕ → Type 0
HeaderWithin Unended n = Unit {0}
HeaderWithin (Ended size len) n = (size ≤ n) × (len ≤ longest_content)
HeaderWithin (Fault at kind) n = at ≤ n

abbrev IsMost : Option ℕ → Type 0
IsMost stated = IfSome stated (λ n. n ≤ longest_content)

number_most : (stated : Option ℕ) (number : ℕ) → IfOk (with_number stated number) IsMost
unfolding with_number
number_most stated number =
    elim (agrees stated number)
    as (λ (t : Bool). IfOk (cond t (cond (nat_lt longest_content number) (Err ContentLong) (Ok (Some number))) (Err BadLength)) IsMost) [
      | true ↦ elim (nat_lt longest_content number)
          as (λ (t : Bool). nat_lt longest_content number ≡ t → IfOk (cond t (Err ContentLong) (Ok (Some number))) IsMost) [
            | true ↦ λ e. tt
            | false ↦ λ e. grind (arith, nat_tests)
          ] refl
      | false ↦ tt
    ]

length_most : (stated : Option ℕ) (value : List ℕ) → IfOk (with_length stated value) IsMost
unfolding with_length
length_most stated value =
    elim (is_number value) as (λ (t : Bool). IfOk (cond t (with_number stated (digits_value 10 value)) (Err BadLength)) IsMost) [
      | true ↦ number_most stated (digits_value 10 value)
      | false ↦ tt
    ]

field_most : (stated : Option ℕ) (name value : List ℕ) → IsMost stated → IfOk (with_field stated name value) IsMost
unfolding with_field
field_most stated name value h =
    elim (is_name name && is_unbroken value)
    as (λ (t : Bool). IfOk (cond t (cond (str_eq_ignore_ascii_case name (codes "content-length")) (with_length stated (trimmed value)) (Ok stated)) (Err BadField)) IsMost) [
      | true ↦ elim (str_eq_ignore_ascii_case name (codes "content-length"))
          as (λ (t : Bool). IfOk (cond t (with_length stated (trimmed value)) (Ok stated)) IsMost) [
            | true ↦ length_most stated (trimmed value)
            | false ↦ h
          ]
      | false ↦ tt
    ]

line_most : (stated : Option ℕ) (line : List ℕ) → IsMost stated → IfOk (with_line stated line) IsMost
unfolding with_line
line_most stated line h =
    elim (position (λ b. b == 58) line)
    as (λ (o : Option ℕ). IfOk (option_map_or (λ colon. with_field stated (take colon line) (drop (colon + 1) line)) o (Err BadField)) IsMost) [
      | None ↦ tt
      | Some colon ↦ field_most stated (take colon line) (drop (colon + 1) line) h
    ]

header_within : (bytes so_far : List ℕ) (stated : Option ℕ) (place : ℕ) → IsMost stated
    → HeaderWithin (header_from stated place (lines_from so_far bytes)) (place + length so_far + length bytes)
header_within [] so_far stated place h = tt
header_within (b ∷ bytes) so_far stated place h =
    by_end (line_ended so_far b) refl (header_within bytes (so_far ++ b ∷ []) stated place h) (λ next p m. header_within bytes [] next p m) where
      by_says : (text : List ℕ) → length text + 1 ≡ length so_far
          → ((next : Option ℕ) (p : ℕ) → IsMost next → HeaderWithin (header_from next p (lines_from [] bytes)) (p + length {A = ℕ} [] + length bytes))
          → (said : Result (Option ℕ) FrameKind) → IfOk said IsMost
          → HeaderWithin (or_fault said place (λ next. header_from next (place + length text + 2) (lines_from [] bytes))) (place + length so_far + length (b ∷ bytes))
      by_says text long again (Err kind) most = omega arith
      by_says text long again (Ok next) most =
          let e : (place + length text + 2) + 0 + length bytes ≡ place + length so_far + length (b ∷ bytes) = omega (arith, long) in
          let P : ℕ → Type 0 = λ n. HeaderWithin (header_from next (place + length text + 2) (lines_from [] bytes)) n in
          subst P e (again next (place + length text + 2) most)

      by_line : (text : List ℕ) → length text + 1 ≡ length so_far
          → ((next : Option ℕ) (p : ℕ) → IsMost next → HeaderWithin (header_from next p (lines_from [] bytes)) (p + length {A = ℕ} [] + length bytes))
          → HeaderWithin (header_from stated place (text ∷ lines_from [] bytes)) (place + length so_far + length (b ∷ bytes))
      by_line [] long again = by_stated stated h where
        by_stated : (s : Option ℕ) → IsMost s → HeaderWithin (option_map_or (λ size. Ended (place + 2) size) s (Fault (place + 2) NoLength)) (place + length so_far + length (b ∷ bytes))
        by_stated None m = omega (arith, long)
        by_stated (Some n) m = (omega (arith, long), m)
      by_line (c ∷ cs) long again = by_says (c ∷ cs) long again (with_line stated (c ∷ cs)) (line_most stated (c ∷ cs) h)

      by_end : (o : Option (List ℕ)) → line_ended so_far b ≡ o
          → HeaderWithin (header_from stated place (lines_from (so_far ++ b ∷ []) bytes)) (place + length (so_far ++ b ∷ []) + length bytes)
          → ((next : Option ℕ) (p : ℕ) → IsMost next → HeaderWithin (header_from next p (lines_from [] bytes)) (p + length {A = ℕ} [] + length bytes))
          → HeaderWithin (header_from stated place (option_map_or (λ text. text ∷ lines_from [] bytes) o (lines_from (so_far ++ b ∷ []) bytes)))
          (place + length so_far + length (b ∷ bytes))
      by_end None e on again =
          let n : place + length (so_far ++ b ∷ []) + length bytes ≡ place + length so_far + length (b ∷ bytes) = omega (arith, length-append so_far (b ∷ [])) in
          let P : ℕ → Type 0 = λ n. HeaderWithin (header_from stated place (lines_from (so_far ++ b ∷ []) bytes)) n in
          subst P n on
      by_end (Some text) e on again = by_line text (ended_length so_far text b e) again

header_is_within : (bytes : List ℕ) → HeaderWithin (header bytes) (length bytes)
header_is_within bytes =
    let P : Header → Type 0 = λ h. HeaderWithin h (length bytes) in
    subst P (sym (header_scans bytes))
    (wider (header_from None 0 (lines_met (take longest_header bytes))) (header_within (take longest_header bytes) [] None 0 tt)) where
      wider : (h : Header) → HeaderWithin h (0 + length {A = ℕ} [] + length (take longest_header bytes)) → HeaderWithin h (length bytes)
      wider Unended w = tt
      wider (Ended size len) w = (omega (arith, w.0, length-take longest_header bytes), w.1)
      wider (Fault at kind) w = omega (arith, w, length-take longest_header bytes)

abbrev FrontShort : Front → ℕ → Type 0
FrontShort Unfinished n = Unit {0}
FrontShort (Whole size content) n = length content ≤ longest_content
FrontShort (Faulty at kind) n = at ≤ n

front_by_short : (h : Header) (bytes : List ℕ) → HeaderWithin h (length bytes) → FrontShort (front_by h bytes) (length bytes)
front_by_short (Fault at kind) bytes w = w
front_by_short (Ended size len) bytes w =
    elim (nat_le (size + len) (length bytes)) as (λ (t : Bool). FrontShort (cond t (Whole size (take len (drop size bytes))) Unfinished) (length bytes)) [
      | true ↦ omega (arith, w.1, length-take len (drop size bytes))
      | false ↦ tt
    ]
front_by_short Unended bytes w =
    elim (nat_le longest_header (length bytes)) as (λ (t : Bool). FrontShort (cond t (Faulty 0 HeaderLong) Unfinished) (length bytes)) [ true ↦ omega arith | false ↦ tt ]

front_short : (bytes : List ℕ) → FrontShort (front bytes) (length bytes)
unfolding front
front_short bytes = front_by_short (header bytes) bytes (header_is_within bytes)

-- the contents are short, and a fault lies within the input
record IsShort (f : Parted) (n : ℕ) : Type 0 where
  contents : AllByRecursion (λ content. length content ≤ longest_content) f.contents
  bad : (place : ℕ) (kind : FrameKind) → f.rest ≡ Bad place kind → place ≤ n

frames_short : (bytes : List ℕ) (place skip : ℕ) → IsShort (frames_from place skip bytes) (place + length bytes)
frames_short [] place skip = record { contents = tt; bad = λ p k e. absurd (cc) }
frames_short (x ∷ bytes) place (suc skip) =
    let r = frames_short bytes (place + 1) skip in
    record { contents = r.contents; bad = λ p k e. omega (arith, r.bad p k e) }
frames_short (x ∷ bytes) place zero = by_front (front (x ∷ bytes)) (front_short (x ∷ bytes)) (λ n. frames_short bytes (place + 1) n) where
  by_front : (f : Front) → FrontShort f (length (x ∷ bytes)) → ((n : ℕ) → IsShort (frames_from (place + 1) n bytes) (place + 1 + length bytes))
      → IsShort (frames_by f place (λ s. frames_from (place + 1) s bytes)) (place + length (x ∷ bytes))
  by_front Unfinished w again = record { contents = tt; bad = λ p k e. absurd (cc) }
  by_front (Faulty at kind) w again = record {
    contents = tt;
    bad = λ p k e. let same : place + at ≡ p = cc in omega (arith, w, same);
  }
  by_front (Whole size content) w again =
      let r = again (size + length content - 1) in
      record { contents = (w, r.contents); bad = λ p k e. omega (arith, r.bad p k e) }

-- a fault lies within the input
pub bad_within : (bytes : List ℕ) (place : ℕ) (kind : FrameKind) → (frames bytes).rest ≡ Bad place kind → place ≤ length bytes
unfolding frames
bad_within bytes place kind e = omega (arith, (frames_short bytes 0 0).bad place kind e)

of_all : (xs : List (List ℕ)) → AllByRecursion (λ content. length content ≤ longest_content) xs → (i : ℕ) (content : List ℕ) → slice_get xs i ≡ Some content
    → length content ≤ longest_content
of_all [] all i content e = absurd (cc)
of_all (x ∷ xs) all zero content e = let same : x ≡ content = cc in omega (arith, all.0, ap length same)
of_all (x ∷ xs) all (suc i) content e = of_all xs all.1 i content e

-- a content has at most 16,777,216 bytes
pub contents_short : (bytes : List ℕ) (i : ℕ) (content : List ℕ) → slice_get (frames bytes).contents i ≡ Some content → length content ≤ longest_content
unfolding frames
contents_short bytes i content e = of_all (frames_from 0 0 bytes).contents (frames_short bytes 0 0).contents i content e
