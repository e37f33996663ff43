-- The words of the contracts of `plan`, `explains` and what writes a text, which `cdb_command` defines.
pub use Rattle.cdb_command.specs.Asked.{Gives, asked_in, has_wide_words, FitsIn, IsInRange}
pub use Rattle.cdb_command.specs.Words.{cdb_faults, plan_of}
pub use Rattle.cdb_command.specs.Refused.{explains_in, Refused, refused_in, refused_line, usage_of}
pub use Rattle.cdb_command.specs.Usage.{usage_text, version_text, usage_number, usage_message}
