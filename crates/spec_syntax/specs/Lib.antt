pub mod Grammar
pub mod Language
pub mod Reader
pub mod GrammarRows
pub mod ValueText
pub mod Cuts
pub mod CutRows
pub mod Number
pub mod Text
pub mod Value
pub mod ValueReader
pub mod Path
pub mod Name
pub mod Bounds
pub mod Func
pub mod Matcher
pub mod Proper
pub mod Spelled
pub mod LanguageReader
pub mod LanguageRows
pub mod Rows
pub mod Block
pub use Rattle.spec_lang.specs.Matcher as LangMatcher
pub use Rattle.spec_lang.specs.Func as LangFunc
pub use Rattle.spec_lang.specs.declared.Test
pub use Rattle.spec_lang.specs.Sorting
pub use Rattle.spec_lang.specs.declared.Bounds as LangBounds
