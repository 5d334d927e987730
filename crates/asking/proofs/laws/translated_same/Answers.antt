use Rattle.asking.proofs.Translations.{results, asks, runs}
use Rattle.asking.proofs.laws.translated_same.Goals as goal

pub returns : goal.returns
returns g c = record {
  results = λ translation given. results g.From.Questions.kind g.To.Questions.kind translation given;
  asks = λ translation given. asks g.From.Questions.kind g.To.Questions.kind translation given;
  runs = λ from_lawful to_lawful translation look. runs g.From.Questions.kind g.To.Questions.kind translation look from_lawful to_lawful;
}
