pub mod Pages
pub mod Bodies
