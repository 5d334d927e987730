-- The text of a notification is what is written piece by piece.
use Rattle.std.proofs.Common.{◌≡◌, ℕ, ℤ, List, ◌++◌, Option, None, Some, false, refl, sym, ap, ◌∙◌, append_assoc, codes}
use Rattle.serde_json.specs.Data.{Data, string}
use Rattle.serde_json.specs.View.{items_of}
use Rattle.serde_json.specs.Written.{compact_text, items_text}
use Rattle.serde_json.proofs.OnLiterals.{serde_json_on_literals}
use Rattle.c_session.specs.Ties.Published.{number_data, publish_start, publish_end, version_part}
use Rattle.frame_form.specs.Written.{framed}
use Rattle.c_session.specs.Diagnostics.{publish, publish_data}

-- the text as it is made of its members
spelled_out : (items uri version : List ℕ) → List ℕ
spelled_out items uri version = publish_start ++ ((items ++ (codes ",\"uri\":" ++ (uri ++ version))) ++ codes "}")

members_spelled : (diagnostics : List Data) (uri : List ℕ) (version : Option ℤ) →
    compact_text (publish_data diagnostics uri version) ≡ spelled_out (items_text false (items_of diagnostics)) (compact_text (string uri)) (version_part version ++ codes "}")
unfolding serde_json_on_literals spelled_out
members_spelled diagnostics uri None = refl
members_spelled diagnostics uri (Some version) = refl

regrouped : (start items a uri version : List ℕ) →
    start ++ ((items ++ (a ++ (uri ++ (version ++ codes "}")))) ++ codes "}") ≡ start ++ items ++ (a ++ uri ++ version ++ codes "}}")
regrouped start items a uri version = simp append_assoc

pub publish_spelled : (diagnostics : List Data) (uri : List ℕ) (version : Option ℤ) →
    compact_text (publish_data diagnostics uri version) ≡ publish_start ++ items_text false (items_of diagnostics) ++ publish_end uri version
unfolding spelled_out publish_end
publish_spelled diagnostics uri version = members_spelled diagnostics uri version
    ∙ regrouped publish_start (items_text false (items_of diagnostics)) (codes ",\"uri\":") (compact_text (string uri)) (version_part version)

-- what is written of a document, behind its header
pub published : (uri : List ℕ) (version : Option ℤ) (diagnostics : List Data) (content : List ℕ) →
    content ≡ publish_start ++ items_text false (items_of diagnostics) ++ publish_end uri version →
    framed content ≡ publish uri version diagnostics
unfolding publish
published uri version diagnostics content is =
    ap framed (is ∙ sym (publish_spelled diagnostics uri version))

-- the version behind what is written
pub versioned : (body text : List ℕ) (z : ℤ) (version : Option ℤ) → {new : List ℕ} → version ≡ Some z → text ≡ compact_text (number_data z) →
    new ≡ (body ++ codes ",\"version\":") ++ text → new ≡ body ++ version_part version
versioned body text z version is written made = made ∙ rw (is, written) (append_assoc body (codes ",\"version\":") (compact_text (number_data z)))
