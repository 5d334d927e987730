-- What is answered to a question about a file.
use Rattle.std.specs.Prelude.{ℕ, List}
use Rattle.doc_texts.specs.Texts.{Texts}
use Rattle.serde_json.specs.Data.{Data}
use Rattle.text_lines.specs.declared.encoding.Encoding.{Encoding}
use Rattle.unit_index.specs.Known.{Known}
use Rattle.c_session.specs.Definition.{definition}
use Rattle.c_session.specs.Hover.{hover}
use Rattle.c_session.specs.References.{references}
use Rattle.c_session.specs.Renamable.{renamable}
use Rattle.c_session.specs.Symbols.{symbols}
use Rattle.c_session.specs.declared.question.Question.{Question}
use Rattle.c_session.specs.declared.question.Question.TheVariants as question

abbrev pub answer : List Known → Texts → Encoding → List ℕ → Question → Data
answer us texts encoding path (question.Hover pos) = hover us texts encoding path pos
answer us texts encoding path (question.Definition pos) = definition us texts encoding path pos
answer us texts encoding path (question.References pos declarations) = references us texts encoding path pos declarations
answer us texts encoding path question.Symbols = symbols us texts encoding path
answer us texts encoding path (question.Renamable pos) = renamable us texts encoding path pos
