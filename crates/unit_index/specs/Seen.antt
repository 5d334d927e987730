-- What an answer is seen as.
use Rattle.unit_index.specs.declared.answers.Speaker.{Speaker}
use Rattle.unit_index.specs.Speaking.{Speech}

abbrev pub speech_of : Speaker → Speech
speech_of s = record { unit = s.unit.now; entity = s.entity.now }
