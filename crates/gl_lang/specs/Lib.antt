pub mod MatcherNode
pub mod MatcherFalls
pub mod MatcherShown
pub mod FuncNode
pub mod FuncFalls
pub mod FuncShown
