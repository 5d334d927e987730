-- What the reader's calls answer, from what is known of the bytes that stand.
use Rattle.std.proofs.Common.{◌≡◌, ℕ, ◌+◌, ◌-◌, ◌^◌, ◌≤◌, ◌<◌, Bool, true, false, cond, IsTrue, nat_eq, List, [], ◌++◌, length, take, drop, Option, Some, None, Result, Ok, Err, arith, sym, ◌∙◌, ap, subst, append_assoc}
use Rattle.std.specs.Prelude.{slice_get, ◌↔◌}
use Rattle.std.proofs.lemmas.List.{drop-append-le, drop_all, length-append, length-drop, take-append-le}
use Rattle.std.proofs.lemmas.Bool.Decides.{nat_tests}
use Rattle.lsp_framing.specs.declared.FrameError.{FrameError}
use Rattle.lsp_framing.specs.declared.FrameError.TheVariants as error
use Rattle.lsp_framing.specs.declared.header.State.{State}
use Rattle.lsp_framing.specs.declared.header.State.TheVariants as state
use Rattle.lsp_framing.specs.Frames.{frames, front}
use Rattle.lsp_framing.specs.Standing.{Content, Standing, Follows, IsEmptyOrOpen, IfContent, OnOpen, OnNoMemory}
use Rattle.lsp_framing.specs.Known.{Known, KnowsContent}
use Rattle.lsp_framing.proofs.Follow.{follows_content, follows_next, follows_open, follows_more, unfinished_content, behind}

-- what is known lasts as more bytes are fed
pub known_more : (s : State) (bytes more : List ℕ) → Known s bytes → Known s (bytes ++ more)
known_more (state.Header line scanned stated) bytes more k = record {
  within = omega (arith, k.within, length-append bytes more);
  short = k.short;
  reads = rw (take-append-le scanned bytes more k.within) k.reads;
}
known_more (state.Content size len) bytes more k = record {
  within = omega (arith, k.within, length-append bytes more);
  short = k.short;
  some = k.some;
  most = k.most;
  goes_on = λ later. rw (take-append-le size bytes more k.within) (k.goes_on later);
}
known_more (state.Faulty at kind) bytes more k = record {
  within = omega (arith, k.within, length-append bytes more);
  goes_on = λ later. ap front (append_assoc bytes more later) ∙ k.goes_on (more ++ later);
}

-- the invariant of a reader, once bytes are fed or were refused
pub kept_feed : (grew : Bool) (items items' more : List ℕ) (start place : ℕ) (s : State) → start ≤ length items
    → place + (length items - start) + length more < 2 ^ 63 → Known s (drop start items) → items' ≡ cond grew (items ++ more) items
    → (start ≤ length items') × (place + (length items' - start) < 2 ^ 63) × Known s (drop start items')
kept_feed true items items' more start place s h bound k e =
    let n : length items' ≡ length items + length more = ap length e ∙ length-append items more in
    let P : List ℕ → Type 0 = λ t. Known s t in
    let rest : drop start items' ≡ drop start items ++ more = ap (drop start) e ∙ drop-append-le start items more h in
    (omega arith, omega arith, subst P (sym rest) (known_more s (drop start items) more k))
kept_feed false items items' more start place s h bound k e =
    let n : length items' ≡ length items = ap length e in
    let P : List ℕ → Type 0 = λ t. Known s (drop start t) in
    (omega arith, omega arith, subst P (sym e) k)

pub all_given : (items : List ℕ) (start : ℕ) → start ≤ length items → IsTrue (nat_eq start (length items)) ↔ (drop start items ≡ [])
all_given items start h = (
  λ t. let e : start ≡ length items = grind (arith, nat_tests) in drop_all start items (omega (arith, e)),
  λ e. let n : start ≡ length items = omega (arith, ap length e, length-drop start items) in grind (arith, nat_tests),
)

here : (s0 s : Standing) → s ≡ s0 → (fed : List ℕ) (given : ℕ) → Follows fed given s0 → Follows fed given s
here s0 s same fed given f = let P : Standing → Type 0 = λ t. Follows fed given t in subst P (sym same) f

-- `s0` stands at the call, and `s` is the same once it is read on; `s'` stands afterwards
module _ (s0 s s' : Standing) (same : s ≡ s0) (size len : ℕ) (k : KnowsContent size len s.bytes) where
  pub next_gives : (r : Result (Option Content) FrameError)
      → IfContent r (λ content. content ≡ take len (drop size s.bytes)) → IfContent r (λ content. size + len ≤ length s.bytes)
      → IfContent r (λ content. s' ≡ behind s (size + len))
      → IfContent r (λ content. (fed : List ℕ) (given : ℕ) → Follows fed given s0 → (slice_get (frames fed).contents given ≡ Some content) × Follows fed (given + 1) s')
  next_gives (Ok (Some v)) e h n = λ fed given f.
      let now = here s0 s same fed given f in
      let P : Standing → Type 0 = λ t. Follows fed (given + 1) t in
      (follows_content fed given size len s now k h ∙ ap Some (sym e), subst P (sym n) (follows_next fed given size len s now k h))
  next_gives (Ok None) e h n = tt
  next_gives (Err x) e h n = tt

  pub next_open : (r : Result (Option Content) FrameError) → OnOpen r (length s.bytes < size + len)
      → OnOpen r ((fed : List ℕ) (given : ℕ) → Follows fed given s0 → (length (frames fed).contents ≡ given) × IsEmptyOrOpen (frames fed).rest)
  next_open (Ok (Some v)) h = tt
  next_open (Ok None) h = λ fed given f. follows_open fed given s (here s0 s same fed given f) (unfinished_content size len s.bytes k h)
  next_open (Err x) h = tt

  pub next_wanted : (r : Result (Option Content) FrameError) → OnNoMemory r (size + len ≤ length s.bytes)
      → OnNoMemory r ((fed : List ℕ) (given : ℕ) → Follows fed given s0 → given < length (frames fed).contents)
  next_wanted (Ok o) h = tt
  next_wanted (Err (error.Fault place kind)) h = tt
  next_wanted (Err error.NoMemory) h = λ fed given f. follows_more fed given size len s (here s0 s same fed given f) k h
