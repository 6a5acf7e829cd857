pub mod PairWalks
pub mod PrefixLaws
pub mod RangeWalks
pub mod SpanWalks
