pub mod LastReplies
