pub mod FaceLaws
pub mod OneFan
pub mod Replies
