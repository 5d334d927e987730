-- From what stands to the whole input.
use Rattle.std.proofs.Common.{◌≡◌, ℕ, zero, suc, ◌+◌, ◌-◌, ◌≤◌, ◌<◌, true, false, cond, List, [], ◌∷◌, ◌++◌, length, take, drop, Option, Some, None, nat_le, refl, arith, sym, ◌∙◌, ap, subst, append_assoc}
use Rattle.std.specs.Prelude.{slice_get, ◌↔◌}
use Rattle.std.proofs.lemmas.List.{take_all, append-nil, length-take-le, length-append, length-take, length-drop, take-append-drop, take-take, drop-take, nil_from_length}
use Rattle.std.proofs.lemmas.Bool.Decides.{nat_tests}
use Rattle.lsp_framing.specs.declared.FrameKind.{FrameKind}
use Rattle.lsp_framing.specs.declared.FrameKind.TheVariants.{HeaderLong}
use Rattle.lsp_framing.specs.Lines.{Header, Ended, Unended, header, header_from, longest_header}
use Rattle.lsp_framing.specs.Scanned.{lines_met}
use Rattle.lsp_framing.specs.Frames.{Front, Whole, Faulty, Unfinished, front, front_by, Empty, Open, Bad, Parted, parted, after, frames_by, frames_from, frames}
use Rattle.lsp_framing.specs.Standing.{Standing, Follows, IsEmptyOrOpen}
use Rattle.lsp_framing.specs.Known.{KnowsHeader, KnowsContent, KnowsFault, Reads}
use Rattle.lsp_framing.proofs.Windows.{header_short}
use Rattle.lsp_framing.proofs.Laws.{frames_join}

pub front_is : (bytes : List ℕ) (h : Header) → header bytes ≡ h → front bytes ≡ front_by h bytes
unfolding front
front_is bytes h e = ap (λ h. front_by h bytes) e

front_nil : front [] ≡ Unfinished
unfolding front header
front_nil = refl

-- what stands where the header part didn't end
pub unfinished_header : (line scanned : ℕ) (stated : Option ℕ) (bytes : List ℕ) → KnowsHeader line scanned stated bytes → scanned ≡ length bytes
    → front bytes ≡ Unfinished
unfinished_header line scanned stated bytes k e =
    let all : take scanned bytes ≡ bytes = take_all scanned bytes (omega (arith, e)) in
    let P : List ℕ → Type 0 = λ t. Reads t line stated in
    let r : Reads bytes line stated = subst P all k.reads in
    let short : length bytes ≤ longest_header = omega (arith, k.short, e) in
    let unended : header bytes ≡ Unended =
    ap header (sym (append-nil bytes)) ∙ header_short bytes [] short
    ∙ ap (λ t. header_from None 0 (lines_met (bytes ++ t))) (take_nil (longest_header - length bytes)) ∙ r.goes_on [] in
    let test : nat_le longest_header (length bytes) ≡ false = let s = k.short in grind (arith, nat_tests) in
    front_is bytes Unended unended ∙ ap (λ t. cond t (Faulty 0 HeaderLong) Unfinished) test where
      take_nil : (n : ℕ) → take {A = ℕ} n [] ≡ []
      take_nil zero = refl
      take_nil (suc n) = refl

content_header : (size len : ℕ) (bytes more : List ℕ) → KnowsContent size len bytes → header (take size bytes ++ more) ≡ Ended size len
content_header size len bytes more k = k.goes_on more

-- what stands where the content isn't whole
pub unfinished_content : (size len : ℕ) (bytes : List ℕ) → KnowsContent size len bytes → length bytes < size + len → front bytes ≡ Unfinished
unfinished_content size len bytes k h =
    let ended : header bytes ≡ Ended size len = ap header (sym (take-append-drop size bytes)) ∙ k.goes_on (drop size bytes) in
    let test : nat_le (size + len) (length bytes) ≡ false = grind (arith, nat_tests) in
    front_is bytes (Ended size len) ended ∙ ap (λ t. cond t (Whole size (take len (drop size bytes))) Unfinished) test

-- the bytes of a frame, apart
pub whole_front : (size len : ℕ) (bytes : List ℕ) → KnowsContent size len bytes → size + len ≤ length bytes
    → front (take (size + len) bytes) ≡ Whole size (take len (drop size bytes))
whole_front size len bytes k h =
    let apart : take (size + len) bytes ≡ take size bytes ++ take len (drop size bytes) =
    sym (take-append-drop size (take (size + len) bytes))
    ∙ ap (λ t. t ++ drop size (take (size + len) bytes)) (take-take size (size + len) bytes (omega arith))
    ∙ ap (λ t. take size bytes ++ t) (drop-take size len bytes) in
    let ended : header (take (size + len) bytes) ≡ Ended size len = ap header apart ∙ k.goes_on (take len (drop size bytes)) in
    let test : nat_le (size + len) (length (take (size + len) bytes)) ≡ true = let n = length-take-le (size + len) bytes h in grind (arith, nat_tests) in
    front_is (take (size + len) bytes) (Ended size len) ended
    ∙ ap (λ t. cond t (Whole size (take len (drop size (take (size + len) bytes)))) Unfinished) test
    ∙ ap (λ t. Whole size t) (ap (λ t. take len t) (drop-take size len bytes) ∙ take_all len (take len (drop size bytes)) (omega (arith, length-take len (drop size bytes))))

skip_all : (bytes : List ℕ) (place skip : ℕ) → skip ≡ length bytes → frames_from place skip bytes ≡ parted [] Empty
skip_all [] place skip e = refl
skip_all (x ∷ bytes) place zero e = absurd (omega (arith, e))
skip_all (x ∷ bytes) place (suc skip) e = skip_all bytes (place + 1) skip (omega (arith, e))

pub one_frame : (bytes : List ℕ) (place size : ℕ) (content : List ℕ) → front bytes ≡ Whole size content → length bytes ≡ size + length content → 0 < size
    → frames_from place 0 bytes ≡ parted (content ∷ []) Empty
one_frame [] place size content e n some = absurd (omega (arith, n))
one_frame (x ∷ bytes) place size content e n some =
    ap (λ f. frames_by f place (λ s. frames_from (place + 1) s bytes)) e
    ∙ ap (λ t. after (content ∷ []) t) (skip_all bytes (place + 1) (size + length content - 1) (omega (arith, n)))

join : (a b : List ℕ) → (frames a).rest ≡ Empty → frames (a ++ b) ≡ after (frames a).contents (frames_from (length a) 0 b)
unfolding frames
join a b e =
    let p : 0 + length a ≡ length a = omega arith in
    frames_join a b 0 0 (omega arith) e ∙ ap (λ n. after (frames_from 0 0 a).contents (frames_from n 0 b)) p

-- the frames of all bytes: those that were given, and those of what stands
pub frames_are : (fed : List ℕ) (given : ℕ) (s : Standing) → (f : Follows fed given s)
    → frames fed ≡ after (frames f.before).contents (frames_from s.place 0 s.bytes)
frames_are fed given s f =
    ap frames f.fed_is ∙ join f.before s.bytes f.whole
    ∙ ap (λ n. after (frames f.before).contents (frames_from n 0 s.bytes)) (sym f.place_is)

pub follows_feed : (fed more : List ℕ) (given : ℕ) (s s' : Standing) → Follows fed given s → s'.place ≡ s.place → s'.bytes ≡ s.bytes ++ more
    → Follows (fed ++ more) given s'
follows_feed fed more given s s' f p e = record {
  before = f.before;
  fed_is = ap (λ t. t ++ more) f.fed_is ∙ append_assoc f.before s.bytes more ∙ ap (λ t. f.before ++ t) (sym e);
  place_is = p ∙ f.place_is;
  whole = f.whole;
  given_is = f.given_is;
}

open_at : (bytes : List ℕ) (place : ℕ) → front bytes ≡ Unfinished
    → ((frames_from place 0 bytes).contents ≡ []) × IsEmptyOrOpen (frames_from place 0 bytes).rest
open_at [] place e = (refl, tt)
open_at (x ∷ bytes) place e =
    let same : frames_from place 0 (x ∷ bytes) ≡ parted [] Open = ap (λ f. frames_by f place (λ s. frames_from (place + 1) s bytes)) e in
    let P : Parted → Type 0 = λ t. (t.contents ≡ []) × IsEmptyOrOpen t.rest in
    subst P (sym same) (refl, tt)

pub follows_open : (fed : List ℕ) (given : ℕ) (s : Standing) → Follows fed given s → front s.bytes ≡ Unfinished
    → (length (frames fed).contents ≡ given) × IsEmptyOrOpen (frames fed).rest
follows_open fed given s f e =
    let o = open_at s.bytes s.place e in
    let P : Parted → Type 0 = λ t. (length t.contents ≡ given) × IsEmptyOrOpen t.rest in
    subst P (sym (frames_are fed given s f))
    (ap length (ap (λ t. (frames f.before).contents ++ t) o.0 ∙ append-nil (frames f.before).contents) ∙ f.given_is, o.1)

faulty_at : (bytes : List ℕ) (place at : ℕ) (kind : FrameKind) → front bytes ≡ Faulty at kind
    → frames_from place 0 bytes ≡ parted [] (Bad (place + at) kind)
faulty_at [] place at kind e = absurd (cc (front_nil))
faulty_at (x ∷ bytes) place at kind e = ap (λ f. frames_by f place (λ s. frames_from (place + 1) s bytes)) e

pub follows_fault : (fed : List ℕ) (given at : ℕ) (kind : FrameKind) (s : Standing) → Follows fed given s → KnowsFault at kind s.bytes
    → (length (frames fed).contents ≡ given) × ((frames fed).rest ≡ Bad (s.place + at) kind)
follows_fault fed given at kind s f k =
    let e : front s.bytes ≡ Faulty at kind = ap front (sym (append-nil s.bytes)) ∙ k.goes_on [] in
    let o = faulty_at s.bytes s.place at kind e in
    let all = frames_are fed given s f ∙ ap (λ t. after (frames f.before).contents t) o in
    (ap (λ t. length t.contents) all ∙ ap length (append-nil (frames f.before).contents) ∙ f.given_is, ap (λ t. t.rest) all)

get_behind : (xs ys : List (List ℕ)) (y : List ℕ) (n : ℕ) → length xs ≡ n → slice_get (xs ++ y ∷ ys) n ≡ Some y
get_behind [] ys y zero e = refl
get_behind [] ys y (suc n) e = absurd (omega (arith, e))
get_behind (x ∷ xs) ys y zero e = absurd (omega (arith, e))
get_behind (x ∷ xs) ys y (suc n) e = get_behind xs ys y n (omega (arith, e))

-- what stands behind a frame
abbrev pub behind : Standing → ℕ → Standing
behind s n = record { place = s.place + n; bytes = drop n s.bytes }

with_frame : (before bytes : List ℕ) (size len : ℕ) → (frames before).rest ≡ Empty → KnowsContent size len bytes → size + len ≤ length bytes
    → frames (before ++ take (size + len) bytes) ≡ parted ((frames before).contents ++ take len (drop size bytes) ∷ []) Empty
with_frame before bytes size len whole k h =
    let long : length (take (size + len) bytes) ≡ size + length (take len (drop size bytes)) =
    omega (arith, length-take-le (size + len) bytes h, length-take len (drop size bytes), length-drop size bytes) in
    join before (take (size + len) bytes) whole
    ∙ ap (λ t. after (frames before).contents t)
    (one_frame (take (size + len) bytes) (length before) size (take len (drop size bytes)) (whole_front size len bytes k h) long k.some)

apart_is : (before bytes : List ℕ) (n : ℕ) → before ++ bytes ≡ (before ++ take n bytes) ++ drop n bytes
apart_is before bytes n = ap (λ t. before ++ t) (sym (take-append-drop n bytes)) ∙ sym (append_assoc before (take n bytes) (drop n bytes))

pub follows_next : (fed : List ℕ) (given size len : ℕ) (s : Standing) → Follows fed given s → KnowsContent size len s.bytes → size + len ≤ length s.bytes
    → Follows fed (given + 1) (behind s (size + len))
follows_next fed given size len s f k h =
    let w = with_frame f.before s.bytes size len f.whole k h in
    record {
      before = f.before ++ take (size + len) s.bytes;
      fed_is = f.fed_is ∙ apart_is f.before s.bytes (size + len);
      place_is = omega (arith, f.place_is, length-append f.before (take (size + len) s.bytes), length-take-le (size + len) s.bytes h);
      whole = ap (λ t. t.rest) w;
      given_is = ap (λ t. length t.contents) w ∙ length-append (frames f.before).contents (take len (drop size s.bytes) ∷ []) ∙ omega (arith, f.given_is);
    }

pub follows_content : (fed : List ℕ) (given size len : ℕ) (s : Standing) → Follows fed given s → KnowsContent size len s.bytes → size + len ≤ length s.bytes
    → slice_get (frames fed).contents given ≡ Some (take len (drop size s.bytes))
follows_content fed given size len s f k h =
    let content = take len (drop size s.bytes) in
    let w = with_frame f.before s.bytes size len f.whole k h in
    let all = ap frames (f.fed_is ∙ apart_is f.before s.bytes (size + len)) ∙ join (f.before ++ take (size + len) s.bytes) (drop (size + len) s.bytes) (ap (λ t. t.rest) w) in
    let later = (frames_from (length (f.before ++ take (size + len) s.bytes)) 0 (drop (size + len) s.bytes)).contents in
    ap (λ t. slice_get t.contents given) all
    ∙ ap (λ t. slice_get (t.contents ++ later) given) w
    ∙ ap (λ t. slice_get t given) (append_assoc (frames f.before).contents (content ∷ []) later)
    ∙ get_behind (frames f.before).contents later content given f.given_is

length_of_get : (xs : List (List ℕ)) (n : ℕ) (y : List ℕ) → slice_get xs n ≡ Some y → n < length xs
length_of_get [] n y e = absurd (cc)
length_of_get (x ∷ xs) zero y e = omega arith
length_of_get (x ∷ xs) (suc n) y e = omega (arith, length_of_get xs n y e)

-- a content is still to be given
pub follows_more : (fed : List ℕ) (given size len : ℕ) (s : Standing) → Follows fed given s → KnowsContent size len s.bytes → size + len ≤ length s.bytes
    → given < length (frames fed).contents
follows_more fed given size len s f k h = length_of_get (frames fed).contents given _ (follows_content fed given size len s f k h)

pub follows_nil : (bytes : List ℕ) → bytes ≡ [] → Follows [] 0 (record { place = 0; bytes = bytes })
unfolding frames
follows_nil bytes e = record { before = []; fed_is = sym e; place_is = refl; whole = refl; given_is = refl }

rest_some : (x : ℕ) (bytes : List ℕ) (place : ℕ) → (frames_from place 0 (x ∷ bytes)).contents ≡ [] → (frames_from place 0 (x ∷ bytes)).rest ≡ Empty → ⊥
rest_some x bytes place = by_front (front (x ∷ bytes)) where
  by_front : (f : Front) → (frames_by f place (λ s. frames_from (place + 1) s bytes)).contents ≡ [] → (frames_by f place (λ s. frames_from (place + 1) s bytes)).rest ≡ Empty → ⊥
  by_front Unfinished c r = cc
  by_front (Faulty at kind) c r = cc
  by_front (Whole size content) c r = cc

nil_by : (bytes : List ℕ) (place : ℕ) → (frames_from place 0 bytes).contents ≡ [] → (frames_from place 0 bytes).rest ≡ Empty → bytes ≡ []
nil_by [] place c r = refl
nil_by (x ∷ bytes) place c r = absurd (rest_some x bytes place c r)

-- no byte is left over
pub follows_idle : (fed : List ℕ) (given : ℕ) (s : Standing) → Follows fed given s
    → (s.bytes ≡ []) ↔ ((length (frames fed).contents ≡ given) × ((frames fed).rest ≡ Empty))
follows_idle fed given s f =
    let all = frames_are fed given s f in (
      λ e.
          let same : frames fed ≡ parted ((frames f.before).contents ++ []) Empty =
          all ∙ ap (λ t. after (frames f.before).contents (frames_from s.place 0 t)) e in
          (ap (λ t. length t.contents) same ∙ ap length (append-nil (frames f.before).contents) ∙ f.given_is, ap (λ t. t.rest) same),
      λ (n, r).
          let here = frames_from s.place 0 s.bytes in
          let none : length here.contents ≡ 0 =
          omega (arith, n, ap (λ t. length t.contents) all, length-append (frames f.before).contents here.contents, f.given_is) in
          nil_by s.bytes s.place (nil_from_length here.contents none) (sym (ap (λ t. t.rest) all) ∙ r),
    )
