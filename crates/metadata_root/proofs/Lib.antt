mod Names
mod HeaderFaults
mod Listings
mod Order
mod FirstOfRoot
mod FirstOfPrefix
