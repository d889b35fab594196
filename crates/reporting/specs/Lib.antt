pub mod Lines
pub mod Report
pub mod Run
pub mod FeedClauses
