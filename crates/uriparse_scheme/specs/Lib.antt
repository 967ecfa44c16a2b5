pub mod SchemeTable
pub mod Registered
pub mod Grammar
pub mod Scheme
pub mod Cuts
pub mod Unregistered
pub mod Normal
pub mod DefaultPort
