-- The frames of an input, from the definition alone: what more bytes leave as it was.
use Rattle.std.proofs.Common.{◌≡◌, ℕ, zero, suc, ◌+◌, ◌-◌, ◌≤◌, Bool, true, false, cond, List, [], ◌∷◌, ◌++◌, length, take, drop, Option, Some, None, Result, Ok, Err, nat_le, refl, arith, sym, ◌∙◌, ap, subst}
use Rattle.std.specs.Option.{option_map_or}
use Rattle.std.proofs.lemmas.List.{take_at, take-append-le, drop-append-le, length-append, length-take, length-drop}
use Rattle.std.proofs.lemmas.Bool.Decides.{nat_tests}
use Rattle.lsp_framing.specs.declared.FrameKind.{FrameKind}
use Rattle.lsp_framing.specs.declared.FrameKind.TheVariants.{HeaderLong}
use Rattle.lsp_framing.specs.Lines.{Header, Ended, Fault, Unended, header, header_from, lines, with_line, or_fault, longest_header}
use Rattle.lsp_framing.specs.Scanned.{lines_met, lines_from, line_ended}
use Rattle.lsp_framing.proofs.Scanning.{header_scans}
use Rattle.lsp_framing.specs.Frames.{Front, Whole, Faulty, Unfinished, front, front_by, Empty, Bad, Parted, parted, after, frames_by, frames_from, frames}

-- a header part that ended or has a fault isn't changed by more bytes
abbrev IsMore : Header → Header → Type 0
IsMore Unended later = Unit {0}
IsMore (Ended size len) later = later ≡ Ended size len
IsMore (Fault at kind) later = later ≡ Fault at kind

is_more : (h : Header) → IsMore h h
is_more Unended = tt
is_more (Ended size len) = refl
is_more (Fault at kind) = refl

header_more : (bytes more so_far : List ℕ) (stated : Option ℕ) (place : ℕ)
    → IsMore (header_from stated place (lines_from so_far bytes)) (header_from stated place (lines_from so_far (bytes ++ more)))
header_more [] more so_far stated place = tt
header_more (b ∷ bytes) more so_far stated place =
    by_end (line_ended so_far b) (header_more bytes more (so_far ++ b ∷ []) stated place) (λ next p. header_more bytes more [] next p) where
      by_says : (said : Result (Option ℕ) FrameKind) (p : ℕ) → ((next : Option ℕ) (p : ℕ) → IsMore (header_from next p (lines_from [] bytes)) (header_from next p (lines_from [] (bytes ++ more))))
          → IsMore (or_fault said place (λ next. header_from next p (lines_from [] bytes)))
          (or_fault said place (λ next. header_from next p (lines_from [] (bytes ++ more))))
      by_says (Err kind) p again = refl
      by_says (Ok next) p again = again next p

      by_line : (text : List ℕ) → ((next : Option ℕ) (p : ℕ) → IsMore (header_from next p (lines_from [] bytes)) (header_from next p (lines_from [] (bytes ++ more))))
          → IsMore (header_from stated place (text ∷ lines_from [] bytes)) (header_from stated place (text ∷ lines_from [] (bytes ++ more)))
      by_line [] again = is_more _
      by_line (c ∷ cs) again = by_says (with_line stated (c ∷ cs)) (place + length (c ∷ cs) + 2) again

      by_end : (o : Option (List ℕ))
          → IsMore (header_from stated place (lines_from (so_far ++ b ∷ []) bytes)) (header_from stated place (lines_from (so_far ++ b ∷ []) (bytes ++ more)))
          → ((next : Option ℕ) (p : ℕ) → IsMore (header_from next p (lines_from [] bytes)) (header_from next p (lines_from [] (bytes ++ more))))
          → IsMore (header_from stated place (option_map_or (λ text. text ∷ lines_from [] bytes) o (lines_from (so_far ++ b ∷ []) bytes)))
          (header_from stated place (option_map_or (λ text. text ∷ lines_from [] (bytes ++ more)) o (lines_from (so_far ++ b ∷ []) (bytes ++ more))))
      by_end None on again = on
      by_end (Some text) on again = by_line text again

-- the window of more bytes begins with the window of these
window_more : (n : ℕ) (bytes more : List ℕ) → (behind : List ℕ) × (take n (bytes ++ more) ≡ take n bytes ++ behind)
window_more zero bytes more = ([], refl)
window_more (suc n) [] more = (take (suc n) more, refl)
window_more (suc n) (b ∷ bytes) more = let w = window_more n bytes more in (w.0, ap (λ t. b ∷ t) w.1)

header_stays : (bytes more : List ℕ) → IsMore (header bytes) (header (bytes ++ more))
header_stays bytes more =
    let w = window_more longest_header bytes more in
    let P : List ℕ → Type 0 = λ t. IsMore (header_from None 0 (lines_met (take longest_header bytes))) (header_from None 0 (lines_met t)) in
    rw (header_scans bytes, header_scans (bytes ++ more)) (subst P (sym w.1) (header_more (take longest_header bytes) w.0 [] None 0))

-- a front that is a frame or faulty isn't changed by more bytes
abbrev FrontStays : Front → Front → Type 0
FrontStays Unfinished later = Unit {0}
FrontStays (Whole size content) later = later ≡ Whole size content
FrontStays (Faulty at kind) later = later ≡ Faulty at kind

whole_stays : (bytes more : List ℕ) (size len : ℕ) → size + len ≤ length bytes
    → front_by (Ended size len) (bytes ++ more) ≡ Whole size (take len (drop size bytes))
whole_stays bytes more size len h =
    let test : nat_le (size + len) (length (bytes ++ more)) ≡ true = let n = length-append bytes more in grind (arith, nat_tests) in
    let content : take len (drop size (bytes ++ more)) ≡ take len (drop size bytes) =
    ap (λ t. take len t) (drop-append-le size bytes more (omega arith))
    ∙ take-append-le len (drop size bytes) more (omega (arith, length-drop size bytes)) in
    ap (λ t. cond t (Whole size (take len (drop size (bytes ++ more)))) Unfinished) test ∙ ap (λ t. Whole size t) content

long_stays : (bytes more : List ℕ) → longest_header ≤ length bytes → front_by Unended (bytes ++ more) ≡ Faulty 0 HeaderLong
long_stays bytes more h =
    let test : nat_le longest_header (length (bytes ++ more)) ≡ true = let n = length-append bytes more in grind (arith, nat_tests) in
    ap (λ t. cond t (Faulty 0 HeaderLong) Unfinished) test

from_le : (m n : ℕ) → nat_le m n ≡ true → m ≤ n
from_le m n e = grind (arith, nat_tests)

front_by_stays : (h later : Header) (bytes more : List ℕ) → IsMore h later → (longest_header ≤ length bytes → later ≡ h)
    → FrontStays (front_by h bytes) (front_by later (bytes ++ more))
front_by_stays (Fault at kind) later bytes more m u = ap (λ h. front_by h (bytes ++ more)) m
front_by_stays (Ended size len) later bytes more m u =
    elim (nat_le (size + len) (length bytes))
    as (λ (t : Bool). nat_le (size + len) (length bytes) ≡ t → FrontStays (cond t (Whole size (take len (drop size bytes))) Unfinished) (front_by later (bytes ++ more))) [
      | true ↦ λ e. ap (λ h. front_by h (bytes ++ more)) m ∙ whole_stays bytes more size len (from_le _ _ e)
      | false ↦ λ e. tt
    ] refl
front_by_stays Unended later bytes more m u =
    elim (nat_le longest_header (length bytes))
    as (λ (t : Bool). nat_le longest_header (length bytes) ≡ t → FrontStays (cond t (Faulty 0 HeaderLong) Unfinished) (front_by later (bytes ++ more))) [
      | true ↦ λ e. let h = from_le _ _ e in ap (λ h. front_by h (bytes ++ more)) (u h) ∙ long_stays bytes more h
      | false ↦ λ e. tt
    ] refl

header_same : (bytes more : List ℕ) → longest_header ≤ length bytes → header (bytes ++ more) ≡ header bytes
unfolding header
header_same bytes more h = ap (λ t. header_from None 0 (lines t)) (take-append-le longest_header bytes more h)

pub front_stays : (bytes more : List ℕ) → FrontStays (front bytes) (front (bytes ++ more))
unfolding front
front_stays bytes more = front_by_stays (header bytes) (header (bytes ++ more)) bytes more (header_stays bytes more) (header_same bytes more)

-- a frame lies in the bytes
abbrev pub FrontWithin : Front → ℕ → Type 0
FrontWithin Unfinished n = Unit {0}
FrontWithin (Whole size content) n = size + length content ≤ n
FrontWithin (Faulty at kind) n = Unit {0}

front_by_within : (h : Header) (bytes : List ℕ) → FrontWithin (front_by h bytes) (length bytes)
front_by_within (Fault at kind) bytes = tt
front_by_within (Ended size len) bytes =
    elim (nat_le (size + len) (length bytes))
    as (λ (t : Bool). nat_le (size + len) (length bytes) ≡ t → FrontWithin (cond t (Whole size (take len (drop size bytes))) Unfinished) (length bytes)) [
      | true ↦ λ e. let h = from_le _ _ e in omega (arith, length-take len (drop size bytes))
      | false ↦ λ e. tt
    ] refl
front_by_within Unended bytes =
    elim (nat_le longest_header (length bytes)) as (λ (t : Bool). FrontWithin (cond t (Faulty 0 HeaderLong) Unfinished) (length bytes)) [ true ↦ tt | false ↦ tt ]

pub front_within : (bytes : List ℕ) → FrontWithin (front bytes) (length bytes)
unfolding front
front_within bytes = front_by_within (header bytes) bytes

-- behind whole frames the others follow
pub frames_join : (a b : List ℕ) (place skip : ℕ) → skip ≤ length a → (frames_from place skip a).rest ≡ Empty
    → frames_from place skip (a ++ b) ≡ after (frames_from place skip a).contents (frames_from (place + length a) 0 b)
frames_join [] b place zero h e = let p : place + 0 ≡ place = omega arith in ap (λ n. frames_from n 0 b) (sym p)
frames_join [] b place (suc skip) h e = absurd (omega arith)
frames_join (x ∷ a) b place (suc skip) h e =
    let p : (place + 1) + length a ≡ place + length (x ∷ a) = omega arith in
    frames_join a b (place + 1) skip (omega arith) e ∙ ap (λ n. after (frames_from (place + 1) skip a).contents (frames_from n 0 b)) p
frames_join (x ∷ a) b place zero h e =
    by_front (front (x ∷ a)) (front ((x ∷ a) ++ b)) (front_stays (x ∷ a) b) (front_within (x ∷ a)) (λ n h e. frames_join a b (place + 1) n h e) e where
      by_front : (f later : Front) → FrontStays f later → FrontWithin f (length (x ∷ a))
          → ((n : ℕ) → n ≤ length a → (frames_from (place + 1) n a).rest ≡ Empty
          → frames_from (place + 1) n (a ++ b) ≡ after (frames_from (place + 1) n a).contents (frames_from (place + 1 + length a) 0 b))
          → (frames_by f place (λ s. frames_from (place + 1) s a)).rest ≡ Empty
          → frames_by later place (λ s. frames_from (place + 1) s (a ++ b))
          ≡ after (frames_by f place (λ s. frames_from (place + 1) s a)).contents (frames_from (place + length (x ∷ a)) 0 b)
      by_front Unfinished later stays within again e = absurd (cc)
      by_front (Faulty at kind) later stays within again e = absurd (cc)
      by_front (Whole size content) later stays within again e =
          let n = size + length content - 1 in
          let p : (place + 1) + length a ≡ place + length (x ∷ a) = omega arith in
          ap (λ f. frames_by f place (λ s. frames_from (place + 1) s (a ++ b))) stays
          ∙ ap (λ t. after (content ∷ []) t) (again n (omega (arith, within)) e)
          ∙ ap (λ m. after (content ∷ (frames_from (place + 1) n a).contents) (frames_from m 0 b)) p

-- more bytes leave the contents, and a fault for good
record Extends (x y : Parted) : Type 0 where
  more : List (List ℕ)
  contents : y.contents ≡ x.contents ++ more
  bad : (place : ℕ) (kind : FrameKind) → x.rest ≡ Bad place kind → y ≡ x

frames_extend : (a b : List ℕ) (place skip : ℕ) → Extends (frames_from place skip a) (frames_from place skip (a ++ b))
frames_extend [] b place skip = record { more = (frames_from place skip b).contents; contents = refl; bad = λ p k h. absurd (cc) }
frames_extend (x ∷ a) b place (suc skip) = frames_extend a b (place + 1) skip
frames_extend (x ∷ a) b place zero =
    by_front (front (x ∷ a)) (front ((x ∷ a) ++ b)) (front_stays (x ∷ a) b) (λ n. frames_extend a b (place + 1) n) where
      by_front : (f later : Front) → FrontStays f later
          → ((n : ℕ) → Extends (frames_from (place + 1) n a) (frames_from (place + 1) n (a ++ b)))
          → Extends (frames_by f place (λ s. frames_from (place + 1) s a)) (frames_by later place (λ s. frames_from (place + 1) s (a ++ b)))
      by_front Unfinished later stays again = record {
        more = (frames_by later place (λ s. frames_from (place + 1) s (a ++ b))).contents;
        contents = refl;
        bad = λ p k h. absurd (cc);
      }
      by_front (Faulty at kind) later stays again =
          let same : frames_by later place (λ s. frames_from (place + 1) s (a ++ b)) ≡ parted [] (Bad (place + at) kind) =
          ap (λ f. frames_by f place (λ s. frames_from (place + 1) s (a ++ b))) stays in
          record { more = []; contents = ap (λ t. t.contents) same; bad = λ p k h. same }
      by_front (Whole size content) later stays again =
          let n = size + length content - 1 in
          let r = again n in
          let same : frames_by later place (λ s. frames_from (place + 1) s (a ++ b)) ≡ after (content ∷ []) (frames_from (place + 1) n (a ++ b)) =
          ap (λ f. frames_by f place (λ s. frames_from (place + 1) s (a ++ b))) stays in
          record {
            more = r.more;
            contents = ap (λ t. t.contents) same ∙ ap (λ t. content ∷ t) r.contents;
            bad = λ p k h. same ∙ ap (λ t. after (content ∷ []) t) (r.bad p k h);
          }

pub frames_nil : frames [] ≡ parted [] Empty
unfolding frames
frames_nil = refl

pub contents_stay : (a b : List ℕ) → take (length (frames a).contents) (frames (a ++ b)).contents ≡ (frames a).contents
unfolding frames
contents_stay a b =
    let r = frames_extend a b 0 0 in
    ap (λ t. take (length (frames_from 0 0 a).contents) t) r.contents ∙ take_at (frames_from 0 0 a).contents r.more _ refl

pub bad_stays : (a b : List ℕ) (place : ℕ) (kind : FrameKind) → (frames a).rest ≡ Bad place kind → frames (a ++ b) ≡ frames a
unfolding frames
bad_stays a b place kind e = (frames_extend a b 0 0).bad place kind e
