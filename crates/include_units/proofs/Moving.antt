-- Steps of a unit that is being read.
use Rattle.std.proofs.Common.{◌≡◌, ◌<◌, ◌≤◌, ◌⊎◌, inl, inr, T, length, get_or, refl, sym, ap, ◌∙◌, subst, arith, ℕ, zero, suc, ◌+◌, ◌-◌, List, [], ◌∷◌, ◌++◌, drop, slice_get, Bool, true, false, not, cond, Option, None, Some, is_some, if◌then◌else◌}
use Rattle.std.specs.Option.{option_or}
use Rattle.std.proofs.lemmas.List.{drop_more, drop_all}
use Rattle.std.proofs.lemmas.Option.{slice_get_cases, slice_get_within, get_or_from_slice_get}
use Rattle.tok_data.specs.declared.sources.TokId.{TokId}
use Rattle.tok_data.specs.declared.tokens.PpToken.{PpToken}
use Rattle.tok_data.specs.declared.tokens.OutToken.{OutToken}
use Rattle.asking.specs.Asking.{Answers, Gives, asks_one, and_then}
use Rattle.asking.specs.LookUps.{Ends, Needs, both, by_found, once, look_up, run_by}
use Rattle.project_conf.specs.declared.conf.UnitConf.{UnitConf}
use Rattle.include_units.specs.declared.types.FileAnswer.{FileAnswer}
use Rattle.include_units.specs.declared.types.Want.{Want}
use Rattle.include_units.specs.declared.stop.Stop.TheVariants.{Need}
use Rattle.include_units.specs.declared.inclusion.Lead.{Lead}
use Rattle.include_units.specs.declared.inclusion.Lead.TheVariants.{On, Into}
use Rattle.include_units.specs.declared.inclusion.Search.{Search}
use Rattle.include_units.specs.declared.inclusion.Next.{Next}
use Rattle.include_units.specs.declared.inclusion.Next.TheVariants as next
use Rattle.include_units.specs.declared.reading.Place.{Place}
use Rattle.include_units.specs.declared.types.UnitTokens.{UnitTokens}
use Rattle.include_units.specs.declared.stack.Reading.{Reading}
use Rattle.include_units.specs.declared.reading.Frame.{Frame}
use Rattle.include_units.specs.declared.reading.Hand.{Hand}
use Rattle.include_units.specs.declared.reading.Hand.TheVariants.{Empty, Holds, Seeks, Enters}
use Rattle.include_units.specs.Coming.{question, Stops}
use Rattle.include_units.specs.Files.{Question, Exists, Answer, files, FromFiles, reads}
use Rattle.include_units.specs.Texts.{Text, Part, Run, Directive, parts_from}
use Rattle.include_units.specs.Made.{Made}
use Rattle.include_units.specs.Literals.{open_where}
use Rattle.include_units.specs.Runs.{run_of}
use Rattle.include_units.specs.Conditionals.{Open, is_taken, unclosed}
use Rattle.include_units.specs.Inclusion.{led, first_held, lead_to}
use Rattle.include_units.specs.Units.{walked, within_group, part, enter, entering, tokens_of, walk, reader_at, is_deep, text_tokens, greatest_depth, read_text, told, unit_tokens}
use Rattle.include_units.specs.Parted.{shown_first, run_behind, part_behind}
use Rattle.include_units.specs.Rests.{by_rest, rest_of}
use Rattle.include_units.specs.Searches.{search_left, behind}
use Rattle.include_units.specs.Cursors.{Ahead}
use Rattle.include_units.specs.Left.{walked_left, text_left, behind_lead, behind_walked, hand_left, frame_left, later_left, stack_left}
use Rattle.include_units.specs.Stack.{reading_left, rest_by, IsRead}
use Rattle.include_units.proofs.Resting.{and_same, and_assoc, rest_runs, same_runs, same_more, then_ends}
use Rattle.include_units.proofs.TellLemmas.{told_more}
use Rattle.include_units.proofs.Runnings.{run_needs}
use Rattle.include_units.proofs.Walking.{deep_is, reader_some}

-- a part is its literals and what is behind them
lines_parted : (text : Text) (ts : List OutToken) (os : List Open) (m : Made) (b : Bool) →
    (if b then and_then (run_of text ts m) (λ n. Gives (walked On os n)) else Gives (walked On os m))
    ≡ (if b then and_then (run_behind text ts (open_where b ts m)) (λ n. Gives (walked On os n)) else Gives (walked On os (open_where b ts m)))
lines_parted text ts os m true = refl
lines_parted text ts os m false = refl

pub part_parted : (folders : List (List ℕ)) (deep : Bool) (text : Text) (p : Part) (os : List Open) (m : Made) →
    part folders deep text p os m ≡ part_behind folders deep text p os (shown_first p os m)
part_parted folders deep text (Run ts) os m = lines_parted text ts os m (is_taken os)
part_parted folders deep text (Directive hash []) os m = refl
part_parted folders deep text (Directive hash (t ∷ ts)) os m = refl

-- the text has ended
pub text_ends : (folders : List (List ℕ)) (p : Place) (r : Ahead) (os : List Open) (m n : Made) → parts_from p.text.name r.at r.tokens ≡ [] → n ≡ unclosed os m →
    text_left folders p r os m ≡ Gives n
text_ends folders p r os m n e u =
    ap (λ ps. walk folders (reader_at folders p.depth) p.text ps os m) e ∙ ap (λ k. Gives k) (sym u)

-- a part is taken in hand
pub part_taken : (folders : List (List ℕ)) (p : Place) (r r' : Ahead) (os : List Open) (one : Part) (m n : Made) →
    parts_from p.text.name r.at r.tokens ≡ one ∷ parts_from p.text.name r'.at r'.tokens → n ≡ shown_first one os m →
    text_left folders p r os m ≡ hand_left folders p r' os (Holds one) n
part_taken folders p r r' os one m n e s =
    ap (λ ps. walk folders (reader_at folders p.depth) p.text ps os m) e
    ∙ ap (λ b. and_then (part folders b p.text one os m) (behind_walked folders p r')) (sym (deep_is folders p.depth))
    ∙ ap (λ a. and_then a (behind_walked folders p r')) (part_parted folders (is_deep p.depth) p.text one os m)
    ∙ ap (λ k. and_then (part_behind folders (is_deep p.depth) p.text one os k) (behind_walked folders p r')) (sym s)

module _ (answers : List (List ℕ × FileAnswer)) (folders : List (List ℕ)) (p : Place) (r : Ahead) where
  -- a part is read
  part_led : (os os' : List Open) (one : Part) (m n : Made) (x : Next) →
      rest_of (look_up files answers) (part_behind folders (is_deep p.depth) p.text one os m) ≡ rest_of (look_up files answers) (walked_left os' x n) →
      rest_of (look_up files answers) (hand_left folders p r os (Holds one) m) ≡ rest_of (look_up files answers) (and_then (walked_left os' x n) (behind_walked folders p r))
  part_led os os' one m n x e =
      and_same (look_up files answers) (part_behind folders (is_deep p.depth) p.text one os m) (walked_left os' x n) (behind_walked folders p r) e

  pub part_on : (os os' : List Open) (one : Part) (m n : Made) →
      rest_of (look_up files answers) (part_behind folders (is_deep p.depth) p.text one os m) ≡ rest_of (look_up files answers) (walked_left os' next.Onward n) →
      rest_of (look_up files answers) (hand_left folders p r os (Holds one) m) ≡ rest_of (look_up files answers) (hand_left folders p r os' Empty n)
  part_on os os' one m n e = part_led os os' one m n next.Onward e

  pub part_seeks : (os os' : List Open) (one : Part) (m n : Made) (s : Search) →
      rest_of (look_up files answers) (part_behind folders (is_deep p.depth) p.text one os m) ≡ rest_of (look_up files answers) (walked_left os' (next.Seeks s) n) →
      rest_of (look_up files answers) (hand_left folders p r os (Holds one) m) ≡ rest_of (look_up files answers) (hand_left folders p r os' (Seeks s) n)
  part_seeks os os' one m n s e =
      part_led os os' one m n (next.Seeks s) e
      ∙ ap (rest_of (look_up files answers)) (and_assoc (search_left s n) (λ l. Gives (within_group os' l)) (behind_walked folders p r))

  pub part_waits : (os : List Open) (one : Part) (m : Made) (want : Want) →
      Stops answers (part_behind folders (is_deep p.depth) p.text one os m) (Need want) →
      run_by (look_up files answers) (hand_left folders p r os (Holds one) m) ≡ Needs (question want ∷ [])
  part_waits os one m want e =
      run_needs (look_up files answers) (part_behind folders (is_deep p.depth) p.text one os m) (behind_walked folders p r) (question want ∷ []) e

  -- a search goes on
  seeks_by : (os : List Open) (s : Search) (m : Made) (paths : List (List ℕ)) → drop s.at s.paths ≡ paths →
      hand_left folders p r os (Seeks s) m ≡ and_then (and_then (first_held paths) (λ found. Gives (lead_to s.by s.whole s.text found m))) (behind_lead folders p r os)
  seeks_by os s m paths e = ap (λ ps. and_then (and_then (first_held ps) (λ found. Gives (lead_to s.by s.whole s.text found m))) (behind_lead folders p r os)) e

drop_there : (xs : List (List ℕ)) (i : ℕ) (x : List ℕ) → slice_get xs i ≡ Some x → drop i xs ≡ x ∷ drop (i + 1) xs
drop_there xs i x e =
    drop_more xs i x (slice_get_within xs i x e) ∙ ap (λ y. y ∷ drop (i + 1) xs) (get_or_from_slice_get xs i x x e)

-- one question, over an answer to it and over none
asked_one : {A : Type 0} (answers : List (List ℕ × FileAnswer)) (q : Question) (k : Answer q → FromFiles A) (a : Answer q) → look_up files answers q ≡ Some a →
    rest_of (look_up files answers) (asks_one {kind = files} q k) ≡ rest_of (look_up files answers) (k a)
asked_one answers q k a e =
    ap (λ o. by_rest (asks_one {kind = files} q k) (λ (given : Answers files (q ∷ [])). rest_of (look_up files answers) (k given.0)) (both o (Some tt))) e

lacks_one : {A : Type 0} (answers : List (List ℕ × FileAnswer)) (q : Question) (k : Answer q → FromFiles A) → look_up files answers q ≡ None →
    run_by (look_up files answers) (asks_one {kind = files} q k) ≡ Needs (q ∷ [])
lacks_one answers q k e =
    ap (λ o. by_found (once files (cond (not (is_some o)) (q ∷ []) [])) (λ (given : Answers files (q ∷ [])). run_by (look_up files answers) (k given.0)) (both o (Some tt))) e

drop_past : (xs : List (List ℕ)) (i : ℕ) → slice_get xs i ≡ None → drop i xs ≡ []
drop_past xs i e = by_cases (slice_get_cases xs i).1
  where
    by_cases : ((x : List ℕ) × (i < length xs) × (slice_get xs i ≡ Some x) × (get_or xs i x ≡ x)) ⊎ ((length xs ≤ i) × (slice_get xs i ≡ None)) → drop i xs ≡ []
    by_cases (inl h) = absurd (subst (λ o. T (is_some o)) (sym h.2 ∙ e) tt)
    by_cases (inr h) = drop_all i xs h.0

module _ (answers : List (List ℕ × FileAnswer)) where
  pub held_there : (s : Search) (path : List ℕ) → slice_get s.paths s.at ≡ Some path → look_up files answers (Exists path) ≡ Some true →
      rest_of (look_up files answers) (first_held (drop s.at s.paths)) ≡ Gives (Some path)
  held_there s path e h =
      ap (λ ps. rest_of (look_up files answers) (first_held ps)) (drop_there s.paths s.at path e)
      ∙ asked_one answers (Exists path) (λ held. if held then Gives (Some path) else first_held (drop (s.at + 1) s.paths)) true h

  pub held_nowhere : (s : Search) → slice_get s.paths s.at ≡ None →
      rest_of (look_up files answers) (first_held (drop s.at s.paths)) ≡ Gives None
  held_nowhere s e = ap (λ ps. rest_of (look_up files answers) (first_held ps)) (drop_past s.paths s.at e)

  held_further : (s : Search) (path : List ℕ) → slice_get s.paths s.at ≡ Some path → look_up files answers (Exists path) ≡ Some false →
      rest_of (look_up files answers) (first_held (drop s.at s.paths)) ≡ rest_of (look_up files answers) (first_held (drop (s.at + 1) s.paths))
  held_further s path e h =
      ap (λ ps. rest_of (look_up files answers) (first_held ps)) (drop_there s.paths s.at path e)
      ∙ asked_one answers (Exists path) (λ held. if held then Gives (Some path) else first_held (drop (s.at + 1) s.paths)) false h

  held_unknown : (s : Search) (path : List ℕ) → slice_get s.paths s.at ≡ Some path → look_up files answers (Exists path) ≡ None →
      run_by (look_up files answers) (first_held (drop s.at s.paths)) ≡ Needs (Exists path ∷ [])
  held_unknown s path e h =
      ap (λ ps. run_by (look_up files answers) (first_held ps)) (drop_there s.paths s.at path e)
      ∙ lacks_one answers (Exists path) (λ held. if held then Gives (Some path) else first_held (drop (s.at + 1) s.paths)) h

  module _ (folders : List (List ℕ)) (p : Place) (r : Ahead) (os : List Open) where
    -- it is found, or nowhere
    pub search_leads : (s : Search) (found : Option (List ℕ)) (lead : Lead) (h : Hand) (m n : Made) →
        rest_of (look_up files answers) (first_held (drop s.at s.paths)) ≡ Gives found → led lead n ≡ lead_to s.by s.whole s.text found m →
        hand_left folders p r os h n ≡ behind_lead folders p r os (led lead n) →
        rest_of (look_up files answers) (hand_left folders p r os (Seeks s) m) ≡ rest_of (look_up files answers) (hand_left folders p r os h n)
    search_leads s found lead h m n e l f =
        and_same (look_up files answers) (search_left s m) (Gives (lead_to s.by s.whole s.text found m)) (behind_lead folders p r os)
        (and_same (look_up files answers) (first_held (drop s.at s.paths)) (Gives found) (λ x. Gives (lead_to s.by s.whole s.text x m)) e)
        ∙ ap (λ x. rest_of (look_up files answers) (behind_lead folders p r os x)) (sym l)
        ∙ ap (rest_of (look_up files answers)) (sym f)

    -- it isn't there, and is looked for behind
    pub search_goes : (s : Search) (path : List ℕ) (m : Made) → slice_get s.paths s.at ≡ Some path → look_up files answers (Exists path) ≡ Some false →
        rest_of (look_up files answers) (hand_left folders p r os (Seeks s) m) ≡ rest_of (look_up files answers) (hand_left folders p r os (Seeks (behind s)) m)
    search_goes s path m e h =
        and_same (look_up files answers) (search_left s m) (search_left (behind s) m) (behind_lead folders p r os)
        (and_same (look_up files answers) (first_held (drop s.at s.paths)) (first_held (drop (s.at + 1) s.paths)) (λ x. Gives (lead_to s.by s.whole s.text x m)) (held_further s path e h))

    pub search_waits : (s : Search) (path : List ℕ) (m : Made) → slice_get s.paths s.at ≡ Some path → look_up files answers (Exists path) ≡ None →
        run_by (look_up files answers) (hand_left folders p r os (Seeks s) m) ≡ Needs (Exists path ∷ [])
    search_waits s path m e h =
        run_needs (look_up files answers) (search_left s m) (behind_lead folders p r os) (Exists path ∷ [])
        (run_needs (look_up files answers) (first_held (drop s.at s.paths)) (λ x. Gives (lead_to s.by s.whole s.text x m)) (Exists path ∷ []) (held_unknown s path e h))

  enters_nowhere : (folders : List (List ℕ)) (depth : ℕ) (text : Text) (by : TokId) (m : Made) → depth ≡ 0 → enter (reader_at folders depth) (Into text by) m ≡ Gives m
  enters_nowhere folders zero text by m e = refl
  enters_nowhere folders (suc depth) text by m e = absurd (omega arith)

  enters_by : (folders : List (List ℕ)) (depth : ℕ) (text : Text) (by : TokId) (m : Made) → 0 < depth →
      enter (reader_at folders depth) (Into text by) m ≡ and_then (tokens_of text.source) (λ ts. text_tokens folders (depth - 1) text ts (entering text by ts m))
  enters_by folders depth text by m h = ap (λ x. enter x (Into text by) m) (reader_some folders depth h)

  module _ (folders : List (List ℕ)) (p : Place) (r : Ahead) (os : List Open) (text : Text) (by : TokId) (m : Made) where
    -- so deep no text is entered
    pub entry_ends : p.depth ≡ 0 →
        rest_of (look_up files answers) (hand_left folders p r os (Enters text by) m) ≡ rest_of (look_up files answers) (hand_left folders p r os Empty m)
    entry_ends e =
        ap (λ a. rest_of (look_up files answers) (and_then a (λ n. text_left folders p r os n))) (enters_nowhere folders p.depth text by m e)

    pub entry_goes : (ts : List PpToken) (f : Frame) (n : Made) → 0 < p.depth → run_by (look_up files answers) (tokens_of text.source) ≡ Ends ts →
        n ≡ entering text by ts m → frame_left folders f n ≡ text_tokens folders (p.depth - 1) text ts n →
        rest_of (look_up files answers) (hand_left folders p r os (Enters text by) m)
        ≡ rest_of (look_up files answers) (and_then (frame_left folders f n) (λ k. text_left folders p r os k))
    entry_goes ts f n d e g h =
        and_same (look_up files answers) (enter (reader_at folders p.depth) (Into text by) m) (frame_left folders f n) (λ k. text_left folders p r os k)
        (ap (rest_of (look_up files answers)) (enters_by folders p.depth text by m d)
        ∙ then_ends (look_up files answers) (tokens_of text.source) (λ us. text_tokens folders (p.depth - 1) text us (entering text by us m)) ts e
        ∙ ap (λ k. rest_of (look_up files answers) (text_tokens folders (p.depth - 1) text ts k)) (sym g)
        ∙ ap (rest_of (look_up files answers)) (sym h))

    pub entry_waits : (want : Want) → 0 < p.depth → Stops answers (tokens_of text.source) (Need want) →
        run_by (look_up files answers) (hand_left folders p r os (Enters text by) m) ≡ Needs (question want ∷ [])
    entry_waits want d e =
        run_needs (look_up files answers) (enter (reader_at folders p.depth) (Into text by) m) (λ k. text_left folders p r os k) (question want ∷ [])
        (ap (run_by (look_up files answers)) (enters_by folders p.depth text by m d)
        ∙ run_needs (look_up files answers) (tokens_of text.source) (λ us. text_tokens folders (p.depth - 1) text us (entering text by us m)) (question want ∷ []) e)

  -- ---- the texts that are entered

  module _ (folders : List (List ℕ)) (fs : List Frame) (later : Option Text) where
    pub stack_on : (f : FromFiles Made) (g : Frame) (n : Made) → rest_of (look_up files answers) f ≡ rest_of (look_up files answers) (frame_left folders g n) →
        rest_of (look_up files answers) (and_then f (λ k. stack_left folders fs later k)) ≡ rest_of (look_up files answers) (stack_left folders (g ∷ fs) later n)
    stack_on f g n e = and_same (look_up files answers) f (frame_left folders g n) (λ k. stack_left folders fs later k) e

    pub stack_waits : (g : Frame) (n : Made) (want : Want) → run_by (look_up files answers) (frame_left folders g n) ≡ Needs (question want ∷ []) →
        run_by (look_up files answers) (stack_left folders (g ∷ fs) later n) ≡ Needs (question want ∷ [])
    stack_waits g n want e = run_needs (look_up files answers) (frame_left folders g n) (λ k. stack_left folders fs later k) (question want ∷ []) e

    pub stack_enters : (f : FromFiles Made) (g inner : Frame) (n : Made) →
        rest_of (look_up files answers) f ≡ rest_of (look_up files answers) (and_then (frame_left folders inner n) (λ k. frame_left folders g k)) →
        rest_of (look_up files answers) (and_then f (λ k. stack_left folders fs later k)) ≡ rest_of (look_up files answers) (stack_left folders (inner ∷ g ∷ fs) later n)
    stack_enters f g inner n e =
        and_same (look_up files answers) f (and_then (frame_left folders inner n) (λ k. frame_left folders g k)) (λ k. stack_left folders fs later k) e
        ∙ ap (rest_of (look_up files answers)) (and_assoc (frame_left folders inner n) (λ k. frame_left folders g k) (λ k. stack_left folders fs later k))

    pub stack_ends : (f : FromFiles Made) (n : Made) → rest_of (look_up files answers) f ≡ Gives n →
        rest_of (look_up files answers) (and_then f (λ k. stack_left folders fs later k)) ≡ rest_of (look_up files answers) (stack_left folders fs later n)
    stack_ends f n e = and_same (look_up files answers) f (Gives n) (λ k. stack_left folders fs later k) e

  -- the unit's own text is entered
  pub later_goes : (folders : List (List ℕ)) (text : Text) (ts : List PpToken) (f : Frame) (m : Made) → run_by (look_up files answers) (tokens_of text.source) ≡ Ends ts →
      frame_left folders f m ≡ text_tokens folders greatest_depth text ts m →
      rest_of (look_up files answers) (later_left folders (Some text) m) ≡ rest_of (look_up files answers) (stack_left folders (f ∷ []) None m)
  later_goes folders text ts f m e h =
      and_same (look_up files answers) (read_text folders text m) (frame_left folders f m) (λ k. Gives (told k))
      (then_ends (look_up files answers) (tokens_of text.source) (λ us. text_tokens folders greatest_depth text us m) ts e ∙ ap (rest_of (look_up files answers)) (sym h))

  pub later_waits : (folders : List (List ℕ)) (text : Text) (m : Made) (want : Want) → Stops answers (tokens_of text.source) (Need want) →
      run_by (look_up files answers) (later_left folders (Some text) m) ≡ Needs (question want ∷ [])
  later_waits folders text m want e =
      run_needs (look_up files answers) (read_text folders text m) (λ k. Gives (told k)) (question want ∷ [])
      (run_needs (look_up files answers) (tokens_of text.source) (λ us. text_tokens folders greatest_depth text us m) (question want ∷ []) e)

  -- ---- the unit

  pub unit_done : (conf : UnitConf) (before : FromFiles UnitTokens) (tokens : UnitTokens) → rest_by answers before ≡ rest_by answers (unit_tokens conf) →
      rest_by answers before ≡ Gives tokens → run_by (look_up files answers) (unit_tokens conf) ≡ Ends tokens
  unit_done conf before tokens e d =
      sym (rest_runs (look_up files answers) (unit_tokens conf)) ∙ ap (run_by (look_up files answers)) (sym e ∙ d)

  pub unit_waits : (conf : UnitConf) (before : FromFiles UnitTokens) (r : Reading) (qs : List Question) → rest_by answers before ≡ rest_by answers (unit_tokens conf) →
      rest_by answers before ≡ rest_by answers (reading_left conf.includes r) → run_by (look_up files answers) (reading_left conf.includes r) ≡ Needs qs →
      run_by (look_up files answers) (unit_tokens conf) ≡ Needs qs
  unit_waits conf before r qs e f g =
      same_runs (look_up files answers) (unit_tokens conf) (reading_left conf.includes r) (sym e ∙ f) ∙ g

told_stays : (answers : List (List ℕ × FileAnswer)) (e : List ℕ × FileAnswer) (q : Question) (a : Answer q) → look_up files answers q ≡ Some a → look_up files (answers ++ e ∷ []) q ≡ Some a
told_stays answers e q a h = told_more answers e q ∙ ap (λ o. option_or o (reads q e)) h

pub read_nothing : (conf : UnitConf) (answers : List (List ℕ × FileAnswer)) (r : Option Reading) → r ≡ None → IsRead conf answers r
unfolding IsRead
read_nothing conf answers r e = subst (λ o. IsRead conf answers o) (sym e) tt

pub is_read : (conf : UnitConf) (answers : List (List ℕ × FileAnswer)) (r : Reading) →
    rest_by answers (reading_left conf.includes r) ≡ rest_by answers (unit_tokens conf) → IsRead conf answers (Some r)
unfolding IsRead
is_read conf answers r e = e

pub read_is : (conf : UnitConf) (answers : List (List ℕ × FileAnswer)) (r : Reading) →
    IsRead conf answers (Some r) → rest_by answers (reading_left conf.includes r) ≡ rest_by answers (unit_tokens conf)
unfolding IsRead
read_is conf answers r e = e

-- what was read stays right over one answer more
pub read_stays : (conf : UnitConf) (answers : List (List ℕ × FileAnswer)) (e : List ℕ × FileAnswer) (r : Option Reading) → IsRead conf answers r → IsRead conf (answers ++ e ∷ []) r
read_stays conf answers e None h = read_nothing conf (answers ++ e ∷ []) None refl
read_stays conf answers e (Some r) h =
    is_read conf (answers ++ e ∷ []) r
    (same_more (look_up files answers) (look_up files (answers ++ e ∷ [])) (told_stays answers e) (reading_left conf.includes r) (unit_tokens conf)
    (read_is conf answers r h))
