-- No response begins notifications.
use Rattle.std.proofs.Common.{◌≡◌, ℕ, zero, suc, ◌+◌, ◌/◌, ◌%◌, ◌<◌, Bool, true, false, cond, ◌==◌, ◌||◌, List, [], ◌∷◌, ◌++◌, length, slice_index, Option, None, Some, ℤ, codes, decimal, refl, sym, ap, ◌∙◌, append_assoc, arith, append-nil, flat_map, ne_eqb, lt-ltb, true≢false}
use Rattle.std.specs.Fmt.{digits, digits_onto, digit_glyph}
use Rattle.std.specs.List.{All, concat}
use Rattle.std.proofs.lemmas.List.Elements.{All-head}
use Rattle.serde_json.specs.Data.{Data}
use Rattle.serde_json.specs.Written.{compact_text}
use Rattle.serde_json.proofs.OnLiterals.{serde_json_on_literals}
use Rattle.json_view.specs.declared.id.Id.{Id}
use Rattle.text_lines.specs.declared.encoding.Encoding.{Encoding}
use Rattle.doc_texts.specs.Texts.{Texts, version_at}
use Rattle.std.specs.Str.{bytes_eq}
use Rattle.std.proofs.lemmas.Slice.Eq.{bytes_eq-Decides}
use Rattle.project_conf.specs.Entries.{refusal}
use Rattle.project_conf.specs.declared.database.ConfError.{ConfError}
use Rattle.plain_mean.specs.Confs.{database_fault}
use Rattle.c_session.specs.React.{did_open, did_change, did_close}
use Rattle.c_session.specs.Places.{uri_for}
use Rattle.c_session.specs.Shown.{shows, publication, published_paths, publications, fault_log, database_differs, database_logs}
use Rattle.c_session.specs.State.{State}
use Rattle.plain_mean.specs.declared.types.Shown.{Shown}
use Rattle.frame_form.specs.Written.{framed}
use Rattle.lsp_answers.specs.Replies.{id_data, id_or_null, response_data, error_data, log_data, response, error, log}
use Rattle.c_session.specs.Diagnostics.{publish_data, publish}
use Rattle.c_session.specs.Responses.{IsResponse, HasResult, HasError, IsNotice, Logs, Publishes, AreNotices, is_edit}

-- what stands from the first brace on
abbrev from_brace : List ℕ → List ℕ
from_brace [] = []
from_brace (b ∷ rest) = cond (b == 123) (b ∷ rest) (from_brace rest)

-- a letter of the first content, by its place from the brace on
abbrev letter : ℕ → List ℕ → ℕ
letter n bytes = slice_index (from_brace bytes) n

-- whether the first member behind a header is `id` or `error`, by its first letter
abbrev first_answers : List ℕ → Bool
first_answers bytes = (letter 2 bytes == 105) || (letter 2 bytes == 101)

-- ---- a header has no brace

passes : (b : ℕ) (rest : List ℕ) → (b ≡ 123 → ⊥) → from_brace (b ∷ rest) ≡ from_brace rest
passes b rest other = ap (λ (t : Bool). cond t (b ∷ rest) (from_brace rest)) (ne_eqb b 123 other)

either_passes : (b : Bool) (xs ys more all : List ℕ) → from_brace (xs ++ more) ≡ all → from_brace (ys ++ more) ≡ all →
    from_brace (cond b xs ys ++ more) ≡ all
either_passes true xs ys more all h k = h
either_passes false xs ys more all h k = k

glyph_is : (d : ℕ) → d < 10 → digit_glyph false d ≡ 48 + d
glyph_is d small = ap (λ (b : Bool). cond b (48 + d) (87 + d)) (lt-ltb d 10 small)

digit_passes : (n : ℕ) (rest : List ℕ) → from_brace (digit_glyph false (n % 10) ∷ rest) ≡ from_brace rest
digit_passes n rest =
    let small : n % 10 < 10 = omega arith in
    passes (digit_glyph false (n % 10)) rest (λ is. omega (arith, small, glyph_is (n % 10) small, is))

digits_pass : (k n : ℕ) (acc more : List ℕ) →
    from_brace (digits_onto k 10 false n acc ++ more) ≡ from_brace (acc ++ more)
digits_pass zero n acc more = refl
digits_pass (suc k) n acc more =
    either_passes (n / 10 == 0) (digit_glyph false (n % 10) ∷ acc)
    (digits_onto k 10 false (n / 10) (digit_glyph false (n % 10) ∷ acc)) more _
    (digit_passes n (acc ++ more))
    (digits_pass k (n / 10) (digit_glyph false (n % 10) ∷ acc) more ∙ digit_passes n (acc ++ more))

number_passes : (n : ℕ) (more : List ℕ) → from_brace (decimal n ++ more) ≡ from_brace more
unfolding digits
number_passes n more = digits_pass 64 n [] more

fields_pass : (ds content more : List ℕ) →
    from_brace ((codes "Content-Length: " ++ ds ++ 13 ∷ 10 ∷ 13 ∷ 10 ∷ [] ++ content) ++ more)
    ≡ from_brace (ds ++ (13 ∷ 10 ∷ 13 ∷ 10 ∷ (content ++ more)))
fields_pass ds content more =
    ap from_brace (append_assoc (ds ++ 13 ∷ 10 ∷ 13 ∷ 10 ∷ []) content more
    ∙ append_assoc ds (13 ∷ 10 ∷ 13 ∷ 10 ∷ []) (content ++ more))

header_passes : (content more : List ℕ) → from_brace (framed content ++ more) ≡ from_brace (content ++ more)
unfolding framed
header_passes content more = fields_pass (decimal (length content)) content more
    ∙ number_passes (length content) (13 ∷ 10 ∷ 13 ∷ 10 ∷ (content ++ more))

letter_in : (n : ℕ) (content more : List ℕ) → letter n (framed content ++ more) ≡ letter n (content ++ more)
letter_in n content more = ap (λ (xs : List ℕ). slice_index xs n) (header_passes content more)

by_content : (content more : List ℕ) → first_answers (framed content ++ more) ≡ first_answers (content ++ more)
by_content content more = ap (λ (xs : List ℕ). (slice_index xs 2 == 105) || (slice_index xs 2 == 101))
    (header_passes content more)

-- ---- the first member's name

result_answers : (id result : Data) (more : List ℕ) →
    first_answers (compact_text (response_data id result) ++ more) ≡ true
unfolding serde_json_on_literals
result_answers id result more = refl

fault_answers : (id : Data) (code : ℤ) (text more : List ℕ) →
    first_answers (compact_text (error_data id code text) ++ more) ≡ true
unfolding serde_json_on_literals
fault_answers id code text more = refl

log_tells : (text more : List ℕ) → first_answers (compact_text (log_data text) ++ more) ≡ false
unfolding serde_json_on_literals
log_tells text more = refl

publish_tells : (diagnostics : List Data) (uri : List ℕ) (version : Option ℤ) (more : List ℕ) →
    first_answers (compact_text (publish_data diagnostics uri version) ++ more) ≡ false
unfolding serde_json_on_literals
publish_tells diagnostics uri version more = refl

response_answers : (id : Id) (result : Data) (more : List ℕ) → first_answers (response id result ++ more) ≡ true
unfolding response
response_answers id result more = by_content (compact_text (response_data (id_data id) result)) more
    ∙ result_answers (id_data id) result more

error_answers : (id : Option Id) (code : ℤ) (text more : List ℕ) → first_answers (error id code text ++ more) ≡ true
unfolding error
error_answers id code text more = by_content (compact_text (error_data (id_or_null id) code text)) more
    ∙ fault_answers (id_or_null id) code text more

is_answer : (id : Option Id) (first more : List ℕ) → IsResponse id first → first_answers (first ++ more) ≡ true
is_answer id first more (HasResult known result same is) =
    ap (λ (xs : List ℕ). first_answers (xs ++ more)) is ∙ response_answers known result more
is_answer id first more (HasError code text is) =
    ap (λ (xs : List ℕ). first_answers (xs ++ more)) is ∙ error_answers id code text more

log_is : (text more : List ℕ) → first_answers (log text ++ more) ≡ false
unfolding log
log_is text more = by_content (compact_text (log_data text)) more ∙ log_tells text more

is_notice : (first more : List ℕ) → IsNotice first → first_answers (first ++ more) ≡ false
unfolding publish
is_notice first more (Logs text is) = ap (λ (xs : List ℕ). first_answers (xs ++ more)) is ∙ log_is text more
is_notice first more (Publishes uri version diagnostics is) =
    ap (λ (xs : List ℕ). first_answers (xs ++ more)) is ∙ by_content _ more ∙ publish_tells _ uri version more

are_notices : (all : List (List ℕ)) → All IsNotice all → first_answers (concat all) ≡ false
are_notices [] each = refl
are_notices (first ∷ rest) each = is_notice first (concat rest) (All-head IsNotice first rest each)

pub no_notices : (id : Option Id) (first rest : List ℕ) → IsResponse id first → AreNotices (first ++ rest) → ⊥
no_notices id first rest responds notices =
    true≢false (sym (is_answer id first rest responds) ∙ ap first_answers notices.joined
    ∙ are_notices notices.notices notices.each)

-- ---- a refusal

letters_differ : {n m : ℕ} (i : ℕ) {xs ys : List ℕ} → letter i xs ≡ n → letter i ys ≡ m → (n ≡ m → ⊥) → xs ≡ ys → ⊥
letters_differ {n} {m} i {xs} {ys} one other differ same = differ (sym one ∙ ap (letter i) same ∙ other)

error_letter : (id : Data) (code : ℤ) (text more : List ℕ) → letter 2 (compact_text (error_data id code text) ++ more) ≡ 101
unfolding serde_json_on_literals
error_letter id code text more = refl

result_letter : (id result : Data) (more : List ℕ) → letter 2 (compact_text (response_data id result) ++ more) ≡ 105
unfolding serde_json_on_literals
result_letter id result more = refl

error_at : (id : Option Id) (code : ℤ) (text more : List ℕ) → letter 2 (error id code text ++ more) ≡ 101
unfolding error
error_at id code text more = letter_in 2 (compact_text (error_data (id_or_null id) code text)) more ∙ error_letter (id_or_null id) code text more

response_at : (id : Id) (result : Data) (more : List ℕ) → letter 2 (response id result ++ more) ≡ 105
unfolding response
response_at id result more = letter_in 2 (compact_text (response_data (id_data id) result)) more ∙ result_letter (id_data id) result more

-- a result is no error
pub no_error : (known : Id) (result : Data) (rest : List ℕ) (id : Option Id) (code : ℤ) (text : List ℕ) → response known result ++ rest ≡ error id code text → ⊥
no_error known result rest id code text is =
    letters_differ 2 (response_at known result rest) (error_at id code text []) (λ e. omega (arith, e)) (is ∙ sym (append-nil (error id code text)))

-- the method and the message of a log
log_method : (text more : List ℕ) → letter 27 (compact_text (log_data text) ++ more) ≡ 119
unfolding serde_json_on_literals
log_method text more = refl

publish_method : (diagnostics : List Data) (uri : List ℕ) (version : Option ℤ) (more : List ℕ) → letter 27 (compact_text (publish_data diagnostics uri version) ++ more) ≡ 116
unfolding serde_json_on_literals
publish_method diagnostics uri version more = refl

log_at : (text more : List ℕ) → letter 27 (log text ++ more) ≡ 119
unfolding log
log_at text more = letter_in 27 (compact_text (log_data text)) more ∙ log_method text more

publication_at : (encoding : Encoding) (t : Texts) (faults : List Shown) (path more : List ℕ) → letter 27 (publication encoding t faults path ++ more) ≡ 116
unfolding publication publish
publication_at encoding t faults path more = letter_in 27 _ more ∙ publish_method _ (uri_for t path) (version_at t path) more

published_no_log : (s : State) (paths : List (List ℕ)) (text more : List ℕ) →
    flat_map (λ path. publication s.encoding s.texts (shows s path) path) paths ≡ log text ++ more → ⊥
published_no_log s [] text more is = letters_differ {n = 0} 27 {xs = []} refl (log_at text more) (λ e. omega (arith, e)) is
published_no_log s (path ∷ paths) text more is =
    letters_differ 27 (publication_at s.encoding s.texts (shows s path) path (flat_map (λ path. publication s.encoding s.texts (shows s path) path) paths))
    (log_at text more) (λ e. omega (arith, e)) is

-- what is published is no log message
pub no_log : (touched : List (List ℕ)) (s s' : State) (text : List ℕ) → publications touched s s' ≡ log text → ⊥
no_log touched s s' text is =
    published_no_log s' (published_paths touched s s') text [] (is ∙ sym (append-nil (log text)))

loading_message : (text more : List ℕ) → letter 67 (compact_text (log_data (codes "load: " ++ text)) ++ more) ≡ 108
unfolding serde_json_on_literals
loading_message text more = refl

closing_message : (text more : List ℕ) → letter 67 (compact_text (log_data (did_close ++ codes ": " ++ text)) ++ more) ≡ 116
unfolding serde_json_on_literals
closing_message text more = refl

opening_message : (text more : List ℕ) → letter 67 (compact_text (log_data (did_open ++ codes ": " ++ text)) ++ more) ≡ 116
unfolding serde_json_on_literals
opening_message text more = refl

changing_message : (text more : List ℕ) → letter 67 (compact_text (log_data (did_change ++ codes ": " ++ text)) ++ more) ≡ 116
unfolding serde_json_on_literals
changing_message text more = refl

database_message : (text more : List ℕ) → letter 67 (compact_text (log_data (codes "compile_commands: " ++ text)) ++ more) ≡ 99
unfolding serde_json_on_literals
database_message text more = refl

loading_at : (text more : List ℕ) → letter 67 (log (codes "load: " ++ text) ++ more) ≡ 108
unfolding log
loading_at text more = letter_in 67 (compact_text (log_data (codes "load: " ++ text))) more ∙ loading_message text more

closing_at : (text more : List ℕ) → letter 67 (log (did_close ++ codes ": " ++ text) ++ more) ≡ 116
unfolding log
closing_at text more = letter_in 67 (compact_text (log_data (did_close ++ codes ": " ++ text))) more ∙ closing_message text more

-- a load that is refused is no refusal of `didClose`
pub no_closing : (text more other : List ℕ) → log (codes "load: " ++ text) ++ more ≡ log (did_close ++ codes ": " ++ other) → ⊥
no_closing text more other is =
    letters_differ 67 (loading_at text more) (closing_at other []) (λ e. omega (arith, e)) (is ∙ sym (append-nil (log (did_close ++ codes ": " ++ other))))

-- ---- a fault of the database is no refusal of an edit

database_at : (text more : List ℕ) → letter 67 (log (codes "compile_commands: " ++ text) ++ more) ≡ 99
unfolding log
database_at text more = letter_in 67 (compact_text (log_data (codes "compile_commands: " ++ text))) more ∙ database_message text more

opening_at : (text more : List ℕ) → letter 67 (log (did_open ++ codes ": " ++ text) ++ more) ≡ 116
unfolding log
opening_at text more = letter_in 67 (compact_text (log_data (did_open ++ codes ": " ++ text))) more ∙ opening_message text more

changing_at : (text more : List ℕ) → letter 67 (log (did_change ++ codes ": " ++ text) ++ more) ≡ 116
unfolding log
changing_at text more = letter_in 67 (compact_text (log_data (did_change ++ codes ": " ++ text))) more ∙ changing_message text more

edit_is : (method named text more : List ℕ) → bytes_eq method named ≡ true → letter 67 (log (named ++ codes ": " ++ text) ++ more) ≡ 116 →
    letter 67 (log (method ++ codes ": " ++ text) ++ more) ≡ 116
edit_is method named text more same is = ap (λ (m : List ℕ). letter 67 (log (m ++ codes ": " ++ text) ++ more)) ((bytes_eq-Decides method named).0 same) ∙ is

edit_by : (method text more : List ℕ) (opens changes closes : Bool) → bytes_eq method did_open ≡ opens → bytes_eq method did_change ≡ changes → bytes_eq method did_close ≡ closes →
    (opens || (changes || closes)) ≡ true → letter 67 (log (method ++ codes ": " ++ text) ++ more) ≡ 116
edit_by method text more true changes closes a b c edit = edit_is method did_open text more a (opening_at text more)
edit_by method text more false true closes a b c edit = edit_is method did_change text more b (changing_at text more)
edit_by method text more false false true a b c edit = edit_is method did_close text more c (closing_at text more)
edit_by method text more false false false a b c edit = absurd (true≢false (sym edit))

edit_at : (method text more : List ℕ) → is_edit method ≡ true → letter 67 (log (method ++ codes ": " ++ text) ++ more) ≡ 116
edit_at method text more edit = edit_by method text more (bytes_eq method did_open) (bytes_eq method did_change) (bytes_eq method did_close) refl refl refl edit

fault_no_log : (touched : List (List ℕ)) (s s' : State) (differs : Bool) (fault : Option ConfError) (method text : List ℕ) → is_edit method ≡ true →
    cond differs (fault_log fault) [] ++ publications touched s s' ≡ log (method ++ codes ": " ++ text) → ⊥
fault_no_log touched s s' false fault method text edit is = no_log touched s s' (method ++ codes ": " ++ text) is
fault_no_log touched s s' true None method text edit is = no_log touched s s' (method ++ codes ": " ++ text) is
fault_no_log touched s s' true (Some e) method text edit is =
    letters_differ 67 (database_at (refusal e) (publications touched s s')) (edit_at method text [] edit) (λ e. omega (arith, e)) (is ∙ sym (append-nil (log (method ++ codes ": " ++ text))))

-- what is told of other texts is no refusal of an edit
pub no_refusal : (touched : List (List ℕ)) (s s' : State) (method text : List ℕ) → is_edit method ≡ true →
    database_logs s s' ++ publications touched s s' ≡ log (method ++ codes ": " ++ text) → ⊥
unfolding database_logs
no_refusal touched s s' method text edit is = fault_no_log touched s s' (database_differs s s') (database_fault s'.texts) method text edit is
