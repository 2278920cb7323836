-- Laws of trade with the road-graph tools, by topic.
pub mod Headers
pub mod Copied
pub mod Many
pub mod Anew
pub mod Apart
pub mod Trading
pub mod Traded
pub mod Texting
pub mod Only
pub mod Cases
pub mod RoundTrip
pub mod Theorems
